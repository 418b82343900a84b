use Rattle.std.proofs.Common.{◌≡◌, ℕ, ◌<◌, List, length, get_or, sym, ap, subst, ◌∙◌}
use Rattle.cl_contracts.proofs.InOrder.{again}
use Rattle.cl_sums.specs.declared.sum.Sum.{Sum}
use Rattle.cl_bound.specs.declared.prices.Prices.{Prices}
use Rattle.cl_bound.proofs.Definitions.{walked_more, walked_past, ShowsAfter, AsWalked}
use Rattle.cl_bound.proofs.contract.deployment.Goals as goal
use Rattle.cl_bound.proofs.contract.deployment.Goals.{in-Some+in_ok-charge, in_default}

pub loop-place-preserved : goal.loop-place-preserved
loop-place-preserved c =
    let place : ℕ = get_or c.deref-place-items.result.now c.loop-place.place-index 0 in
    let inside : c.loop-place.place-index < length c.deref-place-items.result.now = c.loop-place-test.true in
    let lt : c.loop-place.place-index < length c.args.parts.now.order.items = subst (λ (xs : List ℕ). c.loop-place.place-index < length xs) c.deref-place-items.ensures.value inside in
    let at : get_or c.args.parts.now.order.items c.loop-place.place-index place ≡ place = subst (λ (xs : List ℕ). get_or xs c.loop-place.place-index place ≡ place) c.deref-place-items.ensures.value (again c.deref-place-items.result.now c.loop-place.place-index 0 inside) in
    elim c.match-definition_at.branch [
      | in-Some+in_ok-charge w ↦ record {
        costs = ap (λ (p : Prices). p.costs) w.prices-is ∙ w.take_in.ensures.costs ∙ c.loop-place.invariant.costs;
        walked = walked_more c.args.prices.now c.loop-place.prices c.match-definition_at.prices c.args.parts.now c.loop-place.place-index place w.in-Some.definition.now c.loop-place.sum w.in_ok-charge.charge c.match-definition_at.sum lt at (sym w.in-Some.ensures) c.loop-place.invariant.costs w.in_ok-charge.ensures.charged
            (subst (λ (m : Prices). ShowsAfter c.loop-place.prices m w.in-Some.definition.now) (sym w.prices-is) w.in_ok-charge.ensures.shown)
            (λ a b s t. w.sum-is ∙ w.add-sum.ensures a b s t) c.loop-place.invariant.walked;
      }
      | in_default w ↦
          subst (λ (m : Prices). AsWalked c.args.prices.now c.args.parts.now c.loop-place.place-index m c.match-definition_at.sum) (sym w.prices-is)
          (subst (λ (s : Sum). AsWalked c.args.prices.now c.args.parts.now c.loop-place.place-index c.loop-place.prices s) (sym w.sum-is)
          (record {
            costs = c.loop-place.invariant.costs;
            walked = walked_past c.args.prices.now c.loop-place.prices c.args.parts.now c.loop-place.place-index place c.loop-place.sum lt at (sym w.in_default.ensures) c.loop-place.invariant.walked;
          }))
    ]
