use Rattle.std.proofs.Common.{◌≡◌}
use Rattle.std.specs.Prelude.{Ok, OnOk, OnErr}
use Rattle.cl_tokens.specs.Deeds.{done, undone, HasGiver}
use Rattle.cl_tables.specs.Notes.{IsRefusedBy, Keeps}
use Rattle.cl_tables.specs.Numbered.{no_ledger}
use Rattle.cl_tables.proofs.Numbered.{at_number, others_stay}
use Rattle.cl_tables.proofs.tokens.perform_at.Goals as goal

pub returns-clause-done : goal.returns-clause-done
returns-clause-done c =
    at_number (λ old new. OnOk c.perform.result (done c.args.act.now old.ledger ≡ Ok new.ledger)) no_ledger c.in-Some.ledger.now c.perform.new.ledger c.args.tokens.now.entries c.args.number c.requires c.in-Some.ensures.value c.perform.ensures.done

pub returns-clause-refused : goal.returns-clause-refused
returns-clause-refused c =
    at_number (λ old new. IsRefusedBy (done c.args.act.now old.ledger) c.perform.result) no_ledger c.in-Some.ledger.now c.perform.new.ledger c.args.tokens.now.entries c.args.number c.requires c.in-Some.ensures.value c.perform.ensures.refused

pub returns-clause-unchanged : goal.returns-clause-unchanged
returns-clause-unchanged c =
    at_number (λ old new. OnErr c.perform.result (new.ledger ≡ old.ledger)) no_ledger c.in-Some.ledger.now c.perform.new.ledger c.args.tokens.now.entries c.args.number c.requires c.in-Some.ensures.value c.perform.ensures.unchanged

pub returns-clause-back : goal.returns-clause-back
returns-clause-back c =
    at_number (λ old new. OnOk c.perform.result (undone c.args.act.now new.ledger ≡ old.ledger)) no_ledger c.in-Some.ledger.now c.perform.new.ledger c.args.tokens.now.entries c.args.number c.requires c.in-Some.ensures.value c.perform.ensures.back

pub returns-clause-giver : goal.returns-clause-giver
returns-clause-giver c =
    at_number (λ old new. OnOk c.perform.result (HasGiver new.room c.args.act.now)) no_ledger c.in-Some.ledger.now c.perform.new.ledger c.args.tokens.now.entries c.args.number c.requires c.in-Some.ensures.value c.perform.ensures.giver

pub returns-clause-keeps : goal.returns-clause-keeps
returns-clause-keeps c =
    at_number (λ old new. Keeps old.room new.room) no_ledger c.in-Some.ledger.now c.perform.new.ledger c.args.tokens.now.entries c.args.number c.requires c.in-Some.ensures.value c.perform.ensures.keeps

pub returns-clause-others : goal.returns-clause-others
returns-clause-others c = others_stay no_ledger c.perform.new.ledger c.args.tokens.now.entries c.args.number c.requires
