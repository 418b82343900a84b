use Rattle.std.proofs.Common.{◌∙◌}
use Rattle.cl_tables.proofs.Numbered.{looked_up}
use Rattle.cl_tables.proofs.tokens.token_at.Goals as goal

pub returns : goal.returns
returns g c = c.get.ensures.value ∙ looked_up c.args.at.now c.args.tokens.now.entries c.is_valid.ensures c.requires
