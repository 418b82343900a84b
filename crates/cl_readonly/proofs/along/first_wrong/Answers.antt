use Rattle.std.proofs.Common.{◌≡◌, ℕ, ◌<◌, ◌≤◌, List, Some, None, length, get_or, sym, subst}
use Rattle.cl_contracts.proofs.InOrder.{again}
use Rattle.cl_readonly.proofs.Wrong.{next_wrong, last_wrong}
use Rattle.cl_readonly.proofs.along.first_wrong.Goals as goal

pub returns-in-Some : goal.returns-in-Some
returns-in-Some c =
    let place : ℕ = get_or c.deref-place-items.result.now c.loop-place.place-index 0 in
    let lt : c.loop-place.place-index < length c.args.parts.now.order.items = subst (λ (xs : List ℕ). c.loop-place.place-index < length xs) c.deref-place-items.ensures.value c.loop-place-test.true in
    let at : get_or c.args.parts.now.order.items c.loop-place.place-index place ≡ place = subst (λ (xs : List ℕ). get_or xs c.loop-place.place-index place ≡ place) c.deref-place-items.ensures.value (again c.deref-place-items.result.now c.loop-place.place-index 0 c.loop-place-test.true) in
    sym (next_wrong c.args.writing.now.keys c.args.parts.now c.loop-place.place-index place (Some c.in-Some.span) lt at (record { there = c.in-Some.ensures.there; none = c.in-Some.ensures.none }) c.loop-place.invariant)

pub loop-place-preserved : goal.loop-place-preserved
loop-place-preserved c =
    let place : ℕ = get_or c.deref-place-items.result.now c.loop-place.place-index 0 in
    let lt : c.loop-place.place-index < length c.args.parts.now.order.items = subst (λ (xs : List ℕ). c.loop-place.place-index < length xs) c.deref-place-items.ensures.value c.loop-place-test.true in
    let at : get_or c.args.parts.now.order.items c.loop-place.place-index place ≡ place = subst (λ (xs : List ℕ). get_or xs c.loop-place.place-index place ≡ place) c.deref-place-items.ensures.value (again c.deref-place-items.result.now c.loop-place.place-index 0 c.loop-place-test.true) in
    next_wrong c.args.writing.now.keys c.args.parts.now c.loop-place.place-index place None lt at (record { there = c.in_default.ensures.there; none = c.in_default.ensures.none }) c.loop-place.invariant

pub returns : goal.returns
returns c =
    last_wrong c.args.writing.now.keys c.args.parts.now c.loop-place.place-index (subst (λ (xs : List ℕ). length xs ≤ c.loop-place.place-index) c.deref-place-items.ensures.value c.loop-place-test.false) c.loop-place.invariant
