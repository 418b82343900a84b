use Rattle.std.proofs.Common.{◌∙◌, ap, refl, sym, subst, ◌++◌, ◌∷◌, []}
use Rattle.std.specs.Prelude.{IsSome, Ok}
use Rattle.cl_events.specs.Acts.{Acted, changed}
use Rattle.cl_tables.specs.declared.note.Note.{Note}
use Rattle.cl_tables.specs.Deeds.{deed_done}
use Rattle.cl_tables.specs.Notes.{past_of, state_of, ActsOnPast}
use Rattle.cl_tables.specs.Tables.{held_in}
use Rattle.cl_tables.proofs.Past.{kept_changed, kept_as_before, past_changed, past_as_before, gave_up, refused_past}
use Rattle.cl_state.proofs.TokenActs.{change_is, change_has_act, empty_burn}
use Rattle.cl_state.proofs.history.History.act.Goals as goal

pub returns-then-is_empty_burn : goal.returns-then-is_empty_burn
returns-then-is_empty_burn c = (empty_burn c.args.contract.now c.args.kind.now c.args.self.now.state (sym c.is_empty_burn.ensures ∙ c.if-is_empty_burn.true), refl)

pub deed_of-requires : goal.deed_of-requires
deed_of-requires c = change_has_act c.args.contract.now c.args.kind.now c.args.self.now.state c.requires

pub returns-in_err-reserve : goal.returns-in_err-reserve
returns-in_err-reserve c =
    gave_up _ c.args.self.now _ c.from_residual.result c.from_residual.ensures.1
    (ap (λ xs. past_of xs (held_in c.self.inside.tables)) c.in_err-reserve.ensures.items ∙ c.self.view_is)

pub returns-in_err-deed : goal.returns-in_err-deed
returns-in_err-deed c =
    gave_up _ c.args.self.now _ c.from_residual-in_err-deed.result c.from_residual-in_err-deed.ensures.1
    (ap (λ xs. past_of xs (held_in c.self.inside.tables)) c.in_ok-reserve.ensures.items ∙ c.self.view_is)

pub act-requires-clause-defined : goal.act-requires-clause-defined
act-requires-clause-defined c =
    subst (λ (x : Acted). IsSome x)
    (ap (λ p. changed c.args.contract.now c.args.kind.now p.state) (sym c.self.view_is)
    ∙ change_is c.args.contract.now c.args.kind.now c.in_ok-deed.deed (state_of (held_in c.self.inside.tables)) (sym c.is_empty_burn.ensures ∙ c.if-is_empty_burn.false) c.in_ok-deed.ensures.made)
    c.requires

pub invariant_of-self-in_err-note : goal.invariant_of-self-in_err-note
invariant_of-self-in_err-note c = kept_as_before c.self.inside.tables c.act.new.self c.self.inside.notes.items c.reserve.new.self.items c.self.invariant c.in_err-note.ensures.refused c.in_ok-reserve.ensures.items

pub returns-in_err-note : goal.returns-in_err-note
returns-in_err-note c =
    let same = change_is c.args.contract.now c.args.kind.now c.in_ok-deed.deed (state_of (held_in c.self.inside.tables)) (sym c.is_empty_burn.ensures ∙ c.if-is_empty_burn.false) c.in_ok-deed.ensures.made in
    subst (λ (x : Acted). ActsOnPast x c.args.self.now c.from_residual-in_err-note.result (past_of c.reserve.new.self.items (held_in c.act.new.self)))
    (sym same ∙ ap (λ p. changed c.args.contract.now c.args.kind.now p.state) c.self.view_is)
    (refused_past Note (deed_done c.in_ok-deed.deed (state_of (held_in c.self.inside.tables))) c.args.self.now (past_of c.reserve.new.self.items (held_in c.act.new.self)) (state_of (held_in c.act.new.self)) c.in_err-note.field-0.0 c.from_residual-in_err-note.result c.in_err-note.ensures.gives c.from_residual-in_err-note.ensures.1
    (past_as_before c.self.inside.tables c.act.new.self c.self.inside.notes.items c.reserve.new.self.items c.in_err-note.ensures.refused c.in_ok-reserve.ensures.items ∙ c.self.view_is))

pub invariant_of-self-2 : goal.invariant_of-self-2
invariant_of-self-2 c =
    kept_changed c.self.inside.tables c.act.new.self c.self.inside.notes.items c.add_note.new.notes.items c.in_ok-note.note c.self.invariant c.in_ok-note.ensures.noted
    (c.add_note.ensures ∙ ap (λ xs. xs ++ c.in_ok-note.note ∷ []) c.in_ok-reserve.ensures.items)

pub returns : goal.returns
returns c =
    let same = change_is c.args.contract.now c.args.kind.now c.in_ok-deed.deed (state_of (held_in c.self.inside.tables)) (sym c.is_empty_burn.ensures ∙ c.if-is_empty_burn.false) c.in_ok-deed.ensures.made in
    let new = state_of (held_in c.act.new.self) in
    subst (λ p. ActsOnPast (changed c.args.contract.now c.args.kind.now p.state) p (Ok tt) (past_of c.add_note.new.notes.items (held_in c.act.new.self))) c.self.view_is (
      new,
      same ∙ c.in_ok-note.ensures.gives,
      past_changed c.self.inside.tables c.act.new.self c.self.inside.notes.items c.add_note.new.notes.items c.in_ok-note.note new c.in_ok-note.ensures.noted
          (c.add_note.ensures ∙ ap (λ xs. xs ++ c.in_ok-note.note ∷ []) c.in_ok-reserve.ensures.items) (λ i. new),
    )
