use Rattle.cl_tokens.specs.Ledger.{Held as LedgerHeld}
use Rattle.cl_tables.specs.Numbered.{no_ledger}
use Rattle.cl_tables.proofs.Numbered.{same_parts}
use Rattle.cl_tables.proofs.tokens.tidy_ledger.Goals as goal

pub returns-in-Some : goal.returns-in-Some
returns-in-Some c = same_parts (λ (h : LedgerHeld). h.ledger) no_ledger c.in-Some.ledger.now c.tidy.new.self c.args.tokens.now.entries c.args.number c.in-Some.ensures.value c.tidy.ensures
