use Rattle.std.proofs.Common.{◌∙◌, ap, ◌++◌, ◌∷◌, []}
use Rattle.cl_maps.specs.Maps.{put, empty}
use Rattle.cl_events.specs.State.{with_nonfungibles}
use Rattle.cl_tables.specs.Variables.{key_of}
use Rattle.cl_tables.specs.Notes.{past_of, changed_to, state_of}
use Rattle.cl_tables.specs.Tables.{held_in}
use Rattle.cl_tables.proofs.Past.{refused, kept_changed, past_changed, kept_as_before, past_as_before}
use Rattle.cl_state.proofs.history.History.define_nonfungible.Goals as goal

pub returns-in_err-reserve-clause-refused : goal.returns-in_err-reserve-clause-refused
returns-in_err-reserve-clause-refused c = refused c.from_residual.result (ap (λ xs. past_of xs (held_in c.self.inside.tables)) c.in_err-reserve.ensures.items ∙ c.self.view_is)

pub invariant_of-self-in_err-note : goal.invariant_of-self-in_err-note
invariant_of-self-in_err-note c = kept_as_before c.self.inside.tables c.define_nonfungible.new.self c.self.inside.notes.items c.reserve.new.self.items c.self.invariant c.in_err-note.ensures.refused c.in_ok-reserve.ensures.items

pub returns-in_err-note-clause-refused : goal.returns-in_err-note-clause-refused
returns-in_err-note-clause-refused c =
    refused c.from_residual-in_err-note.result (past_as_before c.self.inside.tables c.define_nonfungible.new.self c.self.inside.notes.items c.reserve.new.self.items c.in_err-note.ensures.refused c.in_ok-reserve.ensures.items ∙ c.self.view_is)

pub invariant_of-self-2 : goal.invariant_of-self-2
invariant_of-self-2 c =
    kept_changed c.self.inside.tables c.define_nonfungible.new.self c.self.inside.notes.items c.add_note.new.notes.items c.in_ok-note.note c.self.invariant c.in_ok-note.ensures.noted
    (c.add_note.ensures ∙ ap (λ xs. xs ++ c.in_ok-note.note ∷ []) c.in_ok-reserve.ensures.items)

pub returns-clause-done : goal.returns-clause-done
returns-clause-done c =
    let old = state_of (held_in c.self.inside.tables) in
    past_changed c.self.inside.tables c.define_nonfungible.new.self c.self.inside.notes.items c.add_note.new.notes.items c.in_ok-note.note (with_nonfungibles (put (key_of c.args.at.now) empty old.nonfungibles) old) c.in_ok-note.ensures.noted
    (c.add_note.ensures ∙ ap (λ xs. xs ++ c.in_ok-note.note ∷ []) c.in_ok-reserve.ensures.items) c.in_ok-note.ensures.state
    ∙ ap (λ p. changed_to (with_nonfungibles (put (key_of c.args.at.now) empty p.state.nonfungibles) p.state) p) c.self.view_is
