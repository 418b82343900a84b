use Rattle.std.proofs.Common.{◌≡◌, List, Some, filter_map, sym, ap, subst, ◌∙◌}
use Rattle.cl_shapes.specs.declared.function.CostFn.{CostFn}
use Rattle.cl_costs.specs.Tables.{function_of}
use Rattle.cl_rules.specs.Bills.{cost_under}
use Rattle.cl_rules.specs.Acceptance.{Bounded}
use Rattle.cl_contracts.specs.Seen.{forms_of}
use Rattle.cl_tx.specs.Step.{bound_line}
use Rattle.cl_sums.specs.Sums.{told}
use Rattle.cl_bound.proofs.Bounding.{all_bounded, are_kept, first_above_all}
use Rattle.cl_bound.proofs.bounds.bound.Goals as goal

pub returns-in-Some-clause-broken : goal.returns-in-Some-clause-broken
returns-in-Some-clause-broken c = rw (← c.parts-own.ensures) (
  c.in-Some.dimension,
  c.of.ensures.rule,
  λ deployed known D are knows stands.
      let done = c.in_ok-deployment.ensures.defined known c.parts-own.result.now.principal D (c.new-prices.ensures.shown known c.parts-own.result.now.version c.parts-own.result.now.source_length (are known knows)) stands in
      first_above_all c.what_callers_know.ensures.typed known c.parts-own.result.now D stands c.the_first_bound_is_found.ensures.first c.deployment.new.prices.costs c.args.costs.now c.in-Some.dimension c.in-Some.span c.of.result.span
      (c.in_ok-deployment.ensures.costs ∙ c.new-prices.ensures.costs) c.of.ensures.span
      (c.in-Some.ensures D done.0 (done.1 ∙ ap (λ (t : List CostFn). told (cost_under (function_of t) D.deploy)) (sym c.in_ok-deployment.ensures.costs))),
)

pub returns-in_ok-functions-in-None-clause-bounded : goal.returns-in_ok-functions-in-None-clause-bounded
returns-in_ok-functions-in-None-clause-bounded c = rw (← c.parts-own.ensures) (λ deployed known D are knows stands.
    let done = c.in_ok-deployment.ensures.defined known c.parts-own.result.now.principal D (c.new-prices.ensures.shown known c.parts-own.result.now.version c.parts-own.result.now.source_length (are known knows)) stands in
    all_bounded c.what_callers_know.ensures.typed known c.parts-own.result.now D stands c.the_first_bound_is_found.ensures.none c.deployment.new.prices.costs c.args.costs.now
    (c.in_ok-deployment.ensures.costs ∙ c.new-prices.ensures.costs)
    (c.in-None.ensures D done.0 (done.1 ∙ ap (λ (t : List CostFn). told (cost_under (function_of t) D.deploy)) (sym c.in_ok-deployment.ensures.costs))))

pub returns-in_ok-functions-in-None-clause-told : goal.returns-in_ok-functions-in-None-clause-told
returns-in_ok-functions-in-None-clause-told c = rw (← c.parts-own.ensures) (λ deployed known D are knows stands.
    let done = c.in_ok-deployment.ensures.defined known c.parts-own.result.now.principal D (c.new-prices.ensures.shown known c.parts-own.result.now.version c.parts-own.result.now.source_length (are known knows)) stands in
    let same : c.deployment.new.prices.costs ≡ c.args.costs.now = c.in_ok-deployment.ensures.costs ∙ c.new-prices.ensures.costs in
    let bounded : Bounded D (forms_of c.parts-own.result.now) (function_of c.args.costs.now) =
    all_bounded c.what_callers_know.ensures.typed known c.parts-own.result.now D stands c.the_first_bound_is_found.ensures.none c.deployment.new.prices.costs c.args.costs.now same
    (c.in-None.ensures D done.0 (done.1 ∙ ap (λ (t : List CostFn). told (cost_under (function_of t) D.deploy)) (sym c.in_ok-deployment.ensures.costs))) in
    let deploy = c.saturated.ensures (cost_under (function_of c.args.costs.now) D.deploy) (done.1 ∙ ap (λ (t : List CostFn). told (cost_under (function_of t) D.deploy)) c.new-prices.ensures.costs) bounded.deployment in
    let lines = c.new.ensures ∙ c.in_ok-functions-in-None.ensures D done.0 (subst (λ (t : List CostFn). Bounded D (forms_of c.parts-own.result.now) (function_of t)) (sym same) bounded) ∙ ap (λ (t : List CostFn). filter_map (bound_line (function_of t) D) (forms_of c.parts-own.result.now)) same in
    λ i. Some (record { deploy = sym deploy i; functions = sym lines i }))

pub returns-in_ok-functions-in-None-clause-kept : goal.returns-in_ok-functions-in-None-clause-kept
returns-in_ok-functions-in-None-clause-kept c = rw (← c.parts-own.ensures) (λ deployed are.
    are_kept deployed.contracts c.parts-own.result.now c.deployment.new.prices c.args.costs.now c.kept.result c.kept.ensures.principal c.kept.ensures.length c.kept.ensures.functions (c.in_ok-deployment.ensures.costs ∙ c.new-prices.ensures.costs)
    (λ known D stand stands. (c.in_ok-deployment.ensures.defined known c.parts-own.result.now.principal D (c.new-prices.ensures.shown known c.parts-own.result.now.version c.parts-own.result.now.source_length (are known stand)) stands).0))
