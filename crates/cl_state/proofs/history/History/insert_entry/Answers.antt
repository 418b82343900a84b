use Rattle.std.proofs.Common.{◌≡◌, ◌∙◌, ap, subst}
use Rattle.std.specs.Prelude.{IfSome, OnSome, Option, is_some}
use Rattle.cl_maps.specs.Maps.{put}
use Rattle.cl_events.specs.State.{spot, with_entries}
use Rattle.cl_tables.specs.Notes.{Past, past_of, state_of}
use Rattle.cl_tables.specs.declared.note.Note.{Note}
use Rattle.cl_tables.specs.Tables.{held_in, Changes}
use Rattle.cl_tables.specs.Covering.{IsNoted, Writes}
use Rattle.cl_tables.proofs.Past.{refused, kept_as_before, past_as_before}
use Rattle.cl_tables.proofs.Covering.{kept_noted, written}
use Rattle.cl_state.proofs.history.History.insert_entry.Goals as goal

pub returns-in_err-reserve-clause-refused : goal.returns-in_err-reserve-clause-refused
returns-in_err-reserve-clause-refused c = refused c.from_residual.result (ap (λ xs. past_of xs (held_in c.self.inside.tables)) c.in_err-reserve.ensures.items ∙ c.self.view_is)

pub invariant_of-self-in_err-inserted : goal.invariant_of-self-in_err-inserted
invariant_of-self-in_err-inserted c = kept_as_before c.self.inside.tables c.insert_entry.new.self c.self.inside.notes.items c.reserve.new.self.items c.self.invariant c.in_err-inserted.ensures.refused c.in_ok-reserve.ensures.items

pub returns-in_err-inserted-clause-refused : goal.returns-in_err-inserted-clause-refused
returns-in_err-inserted-clause-refused c =
    refused c.from_residual-in_err-inserted.result (past_as_before c.self.inside.tables c.insert_entry.new.self c.self.inside.notes.items c.reserve.new.self.items c.in_err-inserted.ensures.refused c.in_ok-reserve.ensures.items ∙ c.self.view_is)

pub invariant_of-self-in-Some : goal.invariant_of-self-in-Some
invariant_of-self-in-Some c =
    let change : Changes c.in-Some.note c.self.inside.tables c.insert_entry.new.self = subst (λ (o : Option Note). IfSome o (λ note. Changes note c.self.inside.tables c.insert_entry.new.self)) c.in-Some.is c.in_ok-inserted.ensures.noted in
    kept_noted c.add_write.result c.self.inside.tables c.insert_entry.new.self c.self.inside.notes.items c.add_write.new.notes.items c.in-Some.note c.args.floor c.self.invariant change
    (subst (λ xs. IsNoted c.add_write.result c.args.floor c.in-Some.note xs c.add_write.new.notes.items) c.in_ok-reserve.ensures.items c.add_write.ensures)

pub invariant_of-self-in-None : goal.invariant_of-self-in-None
invariant_of-self-in-None c = kept_as_before c.self.inside.tables c.insert_entry.new.self c.self.inside.notes.items c.reserve.new.self.items c.self.invariant (c.in_ok-inserted.ensures.there (ap is_some c.in-None.is)) c.in_ok-reserve.ensures.items

pub returns-in-Some-clause-done : goal.returns-in-Some-clause-done
returns-in-Some-clause-done c _ =
    let new = c.insert_entry.new.self in
    let old = state_of (held_in c.self.inside.tables) in
    let at = spot c.args.at.now.contract c.args.at.now.name c.args.key.now in
    let change : Changes c.in-Some.note c.self.inside.tables new = subst (λ (o : Option Note). IfSome o (λ note. Changes note c.self.inside.tables new)) c.in-Some.is c.in_ok-inserted.ensures.noted in
    let state : state_of (held_in new) ≡ with_entries (put at c.args.value old.entries) old = subst (λ (o : Option Note). OnSome o (state_of (held_in new) ≡ with_entries (put at c.args.value old.entries) old)) c.in-Some.is c.in_ok-inserted.ensures.state in
    subst (λ (p : Past). Writes c.args.floor (with_entries (put at c.args.value p.state.entries) p.state) p (past_of c.add_write.new.notes.items (held_in new))) c.self.view_is
    (written c.add_write.result c.self.inside.tables new c.self.inside.notes.items c.add_write.new.notes.items c.in-Some.note (with_entries (put at c.args.value old.entries) old) c.args.floor change
    (subst (λ xs. IsNoted c.add_write.result c.args.floor c.in-Some.note xs c.add_write.new.notes.items) c.in_ok-reserve.ensures.items c.add_write.ensures) state)

pub returns-in-None-clause-there : goal.returns-in-None-clause-there
returns-in-None-clause-there c _ =
    past_as_before c.self.inside.tables c.insert_entry.new.self c.self.inside.notes.items c.reserve.new.self.items (c.in_ok-inserted.ensures.there (ap is_some c.in-None.is)) c.in_ok-reserve.ensures.items ∙ c.self.view_is
