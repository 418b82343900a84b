use Rattle.std.proofs.Common.{◌∙◌, ap, sym}
use Rattle.std.specs.Option.{option_map}
use Rattle.cl_tokens.specs.Ledger.{Held as LedgerHeld}
use Rattle.cl_tables.specs.Variables.{key_of}
use Rattle.cl_tables.proofs.Numbered.{parts_placed, get-parts, copied_part}
use Rattle.cl_tables.proofs.tables.Tables.fungible.Goals as goal

pub token_at-requires : goal.token_at-requires
token_at-requires c = parts_placed (λ (h : LedgerHeld). h.ledger) c.args.self.now.fungibles.entries c.requires.fungibles

pub returns : goal.returns
returns c =
    copied_part (λ (h : LedgerHeld). h.ledger) c.token_at.result
    ∙ ap (option_map (λ (h : LedgerHeld). h.ledger)) c.token_at.ensures ∙ sym (get-parts (λ (h : LedgerHeld). h.ledger) c.args.self.now.fungibles.entries (key_of c.args.at.now))
