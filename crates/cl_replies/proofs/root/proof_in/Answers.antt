use Rattle.std.proofs.Common.{◌≡◌, ◌<◌, sym, subst, ◌∙◌, ℕ, List, length}
use Rattle.std.specs.Prelude.{Option, Some, slice_get}
use Rattle.std.proofs.lemmas.Option.{slice_get_within}
use Rattle.std.proofs.lemmas.Result.{IfOk-weaker}
use Rattle.cl_tables.specs.declared.row.StateRow.{StateRow}
use Rattle.cl_replies.specs.Kept.{IsRowAt, HasRowAt, HasFewLines}
use Rattle.cl_replies.proofs.NumberedRows.{none_of, proof_of, is_row_at}
use Rattle.cl_replies.proofs.root.proof_in.Goals as goal

pub returns-in_default : goal.returns-in_default
returns-in_default c =
    let few : HasFewLines c.deref.result.now c.args.number = subst (λ (o : Option ℕ). IsRowAt c.deref.result.now c.args.number o) c.in_default.is c.in_ok-place.ensures in
    IfOk-weaker c.no_row_reply.result _ _
    (λ reply is. none_of c.args.world.now.stack.top c.in_ok-rows.rows.items c.args.number reply c.in_ok-rows.ensures.rows (subst (λ (rs : List StateRow). HasFewLines rs c.args.number) c.deref.ensures.value few) is)
    c.no_row_reply.ensures

pub row_in-requires : goal.row_in-requires
row_in-requires c =
    let has : HasRowAt c.deref.result.now c.args.number c.in-Some.place = subst (λ (o : Option ℕ). IsRowAt c.deref.result.now c.args.number o) c.in-Some.is c.in_ok-place.ensures in
    subst (λ (rs : List StateRow). c.in-Some.place < length rs) (c.deref.ensures.value ∙ sym c.deref-2.ensures.value) (slice_get_within c.deref.result.now c.in-Some.place has.least.0 has.least.1)

pub row_reply-requires-clause-row : goal.row_reply-requires-clause-row
row_reply-requires-clause-row c =
    is_row_at c.args.world.now.stack.top c.in_ok-rows.rows.items c.in-Some.place c.row_in.result.now c.in_ok-rows.ensures.rows
    (subst (λ (rs : List StateRow). slice_get rs c.in-Some.place ≡ Some c.row_in.result.now) c.deref-2.ensures.value c.row_in.ensures)

pub returns : goal.returns
returns c =
    let has : HasRowAt c.deref.result.now c.args.number c.in-Some.place = subst (λ (o : Option ℕ). IsRowAt c.deref.result.now c.args.number o) c.in-Some.is c.in_ok-place.ensures in
    IfOk-weaker c.row_reply.result _ _
    (λ reply is.
    proof_of c.args.world.now.stack.top c.in_ok-rows.rows.items c.args.number c.in-Some.place c.row_in.result.now reply c.in_ok-rows.ensures.rows
    (subst (λ (rs : List StateRow). HasRowAt rs c.args.number c.in-Some.place) c.deref.ensures.value has)
    (subst (λ (rs : List StateRow). slice_get rs c.in-Some.place ≡ Some c.row_in.result.now) c.deref-2.ensures.value c.row_in.ensures) is)
    c.row_reply.ensures
