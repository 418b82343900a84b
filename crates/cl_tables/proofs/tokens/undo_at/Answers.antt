use Rattle.std.proofs.Common.{◌≡◌, sym, subst}
use Rattle.cl_tokens.specs.Ledger.{Held as LedgerHeld}
use Rattle.cl_tokens.specs.Deeds.{undone, HasGiver}
use Rattle.cl_tables.specs.Numbered.{no_ledger}
use Rattle.cl_tables.proofs.Numbered.{at_number, others_stay, value_got}
use Rattle.cl_tables.proofs.tokens.undo_at.Goals as goal

pub undo-requires : goal.undo-requires
undo-requires c = subst (λ (h : LedgerHeld). HasGiver h.room c.args.act.now) (sym (value_got no_ledger c.in-Some.ledger.now c.args.tokens.now.entries c.args.number c.in-Some.ensures.value)) c.requires.ready

pub returns-clause-ledger : goal.returns-clause-ledger
returns-clause-ledger c =
    at_number (λ old new. new.ledger ≡ undone c.args.act.now old.ledger) no_ledger c.in-Some.ledger.now c.undo.new.self c.args.tokens.now.entries c.args.number c.requires.within c.in-Some.ensures.value c.undo.ensures.ledger

pub returns-clause-room : goal.returns-clause-room
returns-clause-room c =
    at_number (λ old new. new.room ≡ old.room) no_ledger c.in-Some.ledger.now c.undo.new.self c.args.tokens.now.entries c.args.number c.requires.within c.in-Some.ensures.value c.undo.ensures.room

pub returns-clause-others : goal.returns-clause-others
returns-clause-others c = others_stay no_ledger c.undo.new.self c.args.tokens.now.entries c.args.number c.requires.within
