use Rattle.std.proofs.Common.{◌∙◌, ap, sym}
use Rattle.cl_tables.specs.Variables.{key_of}
use Rattle.cl_tables.specs.Spots.{is_token_at}
use Rattle.cl_tables.proofs.SamePlaces.{equal_is}
use Rattle.cl_tables.proofs.grafts.is_token_at.Goals as goal

pub returns-in-Token : goal.returns-in-Token
returns-in-Token c = c.eq.ensures ∙ equal_is c.in-Token.place c.args.at.now c.is_valid-in-Token.ensures c.is_valid.ensures ∙ ap (is_token_at (key_of c.args.at.now)) (sym c.in-Token.is)
