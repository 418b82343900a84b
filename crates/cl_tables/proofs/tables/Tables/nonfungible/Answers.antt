use Rattle.std.proofs.Common.{◌∙◌, ap, sym}
use Rattle.std.specs.Option.{option_map}
use Rattle.cl_tokens.specs.Owners.{Owned}
use Rattle.cl_tables.specs.Variables.{key_of}
use Rattle.cl_tables.proofs.Numbered.{parts_placed, get-parts, copied_part}
use Rattle.cl_tables.proofs.tables.Tables.nonfungible.Goals as goal

pub token_at-requires : goal.token_at-requires
token_at-requires c = parts_placed (λ (h : Owned). h.owners) c.args.self.now.nonfungibles.entries c.requires.nonfungibles

pub returns : goal.returns
returns c =
    copied_part (λ (h : Owned). h.owners) c.token_at.result
    ∙ ap (option_map (λ (h : Owned). h.owners)) c.token_at.ensures ∙ sym (get-parts (λ (h : Owned). h.owners) c.args.self.now.nonfungibles.entries (key_of c.args.at.now))
