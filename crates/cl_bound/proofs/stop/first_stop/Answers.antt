use Rattle.std.proofs.Common.{◌≡◌, ℕ, ◌<◌, ◌≤◌, List, Some, None, length, get_or, sym, subst}
use Rattle.cl_contracts.proofs.InOrder.{again}
use Rattle.cl_costs.specs.Tables.{function_of}
use Rattle.cl_bound.proofs.Stopping.{next_stop, last_stop}
use Rattle.cl_bound.proofs.stop.first_stop.Goals as goal
use Rattle.cl_rules.specs.Bills.{cost_under}

pub returns-in-Some : goal.returns-in-Some
returns-in-Some c D shows deploy =
    let place : ℕ = get_or c.deref-place-items.result.now c.loop-place.place-index 0 in
    let lt : c.loop-place.place-index < length c.args.parts.now.order.items = subst (λ (xs : List ℕ). c.loop-place.place-index < length xs) c.deref-place-items.ensures.value c.loop-place-test.true in
    let at : get_or c.args.parts.now.order.items c.loop-place.place-index place ≡ place = subst (λ (xs : List ℕ). get_or xs c.loop-place.place-index place ≡ place) c.deref-place-items.ensures.value (again c.deref-place-items.result.now c.loop-place.place-index 0 c.loop-place-test.true) in
    sym (next_stop c.args.parts.now (function_of c.args.prices.now.costs) D c.loop-place.place-index place (Some c.in-Some.stop) lt at (λ places. c.in-Some.ensures D places shows) (c.loop-place.invariant D shows))

pub loop-place-preserved : goal.loop-place-preserved
loop-place-preserved c D shows =
    let place : ℕ = get_or c.deref-place-items.result.now c.loop-place.place-index 0 in
    let lt : c.loop-place.place-index < length c.args.parts.now.order.items = subst (λ (xs : List ℕ). c.loop-place.place-index < length xs) c.deref-place-items.ensures.value c.loop-place-test.true in
    let at : get_or c.args.parts.now.order.items c.loop-place.place-index place ≡ place = subst (λ (xs : List ℕ). get_or xs c.loop-place.place-index place ≡ place) c.deref-place-items.ensures.value (again c.deref-place-items.result.now c.loop-place.place-index 0 c.loop-place-test.true) in
    next_stop c.args.parts.now (function_of c.args.prices.now.costs) D c.loop-place.place-index place None lt at (λ places. c.in_default.ensures D places shows) (c.loop-place.invariant D shows)

pub returns-in-Some-above : goal.returns-in-Some-above
returns-in-Some-above c D shows deploy =
    last_stop c.args.parts.now (function_of c.args.prices.now.costs) D c.loop-place.place-index (Some c.in-Some-above.dimension) (subst (λ (xs : List ℕ). length xs ≤ c.loop-place.place-index) c.deref-place-items.ensures.value c.loop-place-test.false) (c.in-Some-above.ensures (cost_under (function_of c.args.prices.now.costs) D.deploy) deploy) (c.loop-place.invariant D shows)

pub returns-in-None : goal.returns-in-None
returns-in-None c D shows deploy =
    last_stop c.args.parts.now (function_of c.args.prices.now.costs) D c.loop-place.place-index None (subst (λ (xs : List ℕ). length xs ≤ c.loop-place.place-index) c.deref-place-items.ensures.value c.loop-place-test.false) (c.in-None.ensures (cost_under (function_of c.args.prices.now.costs) D.deploy) deploy) (c.loop-place.invariant D shows)
