use Rattle.std.proofs.Common.{◌≡◌, ℕ, ◌<◌, ◌≤◌, List, length, get_or, subst}
use Rattle.cl_contracts.proofs.InOrder.{again}
use Rattle.cl_rules.specs.Acceptance.{calls_public}
use Rattle.cl_readonly.proofs.InOrder.{walked_none, walked_all, walked_next}
use Rattle.cl_readonly.proofs.along.functions_that_write.Goals as goal

pub loop-place-init : goal.loop-place-init
loop-place-init c known knows = walked_none c.args.parts.now (calls_public known c.args.parts.now.principal) known c.with_hasher-writing.result.keys c.with_hasher-writing.ensures.empty

pub loop-place-preserved : goal.loop-place-preserved
loop-place-preserved c known knows =
    let place : ℕ = get_or c.deref-place-items.result.now c.loop-place.place-index 0 in
    let lt : c.loop-place.place-index < length c.args.parts.now.order.items = subst (λ (xs : List ℕ). c.loop-place.place-index < length xs) c.deref-place-items.ensures.value c.loop-place-test.true in
    let at : get_or c.args.parts.now.order.items c.loop-place.place-index place ≡ place = subst (λ (xs : List ℕ). get_or xs c.loop-place.place-index place ≡ place) c.deref-place-items.ensures.value (again c.deref-place-items.result.now c.loop-place.place-index 0 c.loop-place-test.true) in
    walked_next c.args.parts.now (calls_public known c.args.parts.now.principal) c.requires.names c.requires.own known c.loop-place.place-index place c.loop-place.writing.keys c.note_at.new.writing.keys lt at
    (λ d D found is own stands. c.in_ok-note_at.ensures.there d known D found is knows own stands) c.in_ok-note_at.ensures.none (c.loop-place.invariant known knows)

pub returns : goal.returns
returns c known E knows stands =
    walked_all c.args.parts.now (calls_public known c.args.parts.now.principal) c.requires.names c.requires.own known c.loop-place.place-index c.loop-place.writing.keys E
    (subst (λ (xs : List ℕ). length xs ≤ c.loop-place.place-index) c.deref-place-items.ensures.value c.loop-place-test.false) (c.loop-place.invariant known knows) stands
