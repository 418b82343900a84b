use Rattle.std.proofs.Common.{◌<◌, List, sym, ap, subst, ◌∙◌, arith}
use Rattle.cl_costs.specs.Tables.{function_of}
use Rattle.cl_code.specs.Typed.{Typed, typeds, type_of, weight_of, weights_of}
use Rattle.cl_code.proofs.Weights.{part_falls}
use Rattle.cl_sums.specs.Sums.{told, Increases}
use Rattle.cl_contracts.specs.Standing.{StandAll}
use Rattle.std.proofs.Common.{Option, map}
use Rattle.cl_bound.specs.declared.branches.Branch.{Branch}
use Rattle.cl_bound.specs.Own.{own, inside, inside_by}
use Rattle.cl_bound.proofs.Adding.{sum_more}
use Rattle.cl_bound.proofs.TreeBounds.{bound_is, sums_none, sums_turn, sums_end, three_sum, no_branches}
use Rattle.cl_bound.proofs.walk.+bound.Goals as goal
use Rattle.cl_rules.specs.Bills.{cost_under}

pub add_bound-returns-in-Some : goal.add_bound-returns-in-Some
add_bound-returns-in-Some t c G B f shows stands =
    bound_is G B f (function_of c.args.prices.now.costs) c.code.inside.op c.code.inside.parts.items c.code.inside.span c.code.inside.ty c.args.code.now c.args.sum.now c.add_own.new.sum c.increase.new.self c.code.invariant.named c.code.view_is stands
    (subst (λ (qs : List Typed). Increases c.args.sum.now c.add_own.new.sum (cost_under (function_of c.args.prices.now.costs) (own G c.code.inside.op c.code.inside.ty (map type_of qs)))) c.deref.ensures.value (c.add_own.ensures G shows))
    (λ p gs s. sum_more c.add_own.new.sum c.branches_bound.result c.increase.new.self (cost_under (function_of c.args.prices.now.costs) (inside c.code.inside.op gs))
    (c.branches_bound.ensures G p gs shows (subst (λ (qs : List Typed). StandAll G p (typeds qs) gs) (sym c.deref-in-Some.ensures.value) s) ∙ ap (λ (o : Option (Branch × Branch)). told (cost_under (function_of c.args.prices.now.costs) (inside_by o gs))) c.in-Some.ensures)
    c.increase.ensures)

pub add_bound-returns-in-None : goal.add_bound-returns-in-None
add_bound-returns-in-None t c G B f shows stands =
    bound_is G B f (function_of c.args.prices.now.costs) c.code.inside.op c.code.inside.parts.items c.code.inside.span c.code.inside.ty c.args.code.now c.args.sum.now c.add_own.new.sum c.add_parts.new.sum c.code.invariant.named c.code.view_is stands
    (subst (λ (qs : List Typed). Increases c.args.sum.now c.add_own.new.sum (cost_under (function_of c.args.prices.now.costs) (own G c.code.inside.op c.code.inside.ty (map type_of qs)))) c.deref.ensures.value (c.add_own.ensures G shows))
    (λ p gs s. subst (λ (o : Option (Branch × Branch)). Increases c.add_own.new.sum c.add_parts.new.sum (cost_under (function_of c.args.prices.now.costs) (inside_by o gs))) c.in-None.ensures (c.add_parts.ensures G p gs shows (subst (λ (qs : List Typed). StandAll G p (typeds qs) gs) (sym c.deref-in-None.ensures.value) s)))

pub branches_bound-returns-in-len3 : goal.branches_bound-returns-in-len3
branches_bound-returns-in-len3 t c G p fs shows stands =
    three_sum G (function_of c.args.prices.now.costs) c.args.first c.args.second c.args.parts.now c.input-item.result c.a-item.result c.b-item.result c.input.inside.ty c.add_bound.new.sum c.add_bound-in-len3.new.sum c.add_bound-in-len3-2.new.sum c.counted_branch-a.result c.counted_branch-b.result c.max.result c.increase.new.self
    c.in-len3.len_at_least c.in-len3.len_below (sym c.input-item.is) (sym c.a-item.is) (sym c.b-item.is) (ap type_of (sym c.input.view_is))
    (λ B f s. c.add_bound.ensures G B f shows s) (λ B f s. c.add_bound-in-len3.ensures G B f shows s) (λ B f s. c.add_bound-in-len3-2.ensures G B f shows s)
    c.counted_branch-a.ensures c.counted_branch-b.ensures c.max.ensures c.increase.ensures p fs stands

pub branches_bound-returns-in_default : goal.branches_bound-returns-in_default
branches_bound-returns-in_default t c G p fs shows stands = no_branches G (function_of c.args.prices.now.costs) c.args.first c.args.second c.args.parts.now p fs (λ h. omega (arith, h, c.in_default.len_below)) stands

pub branches_bound-returns-in_default-2 : goal.branches_bound-returns-in_default-2
branches_bound-returns-in_default-2 t c G p fs shows stands = no_branches G (function_of c.args.prices.now.costs) c.args.first c.args.second c.args.parts.now p fs (λ h. omega (arith, h, c.in_default.len_at_least)) stands

pub add_parts-loop-part-init : goal.add_parts-loop-part-init
add_parts-loop-part-init t c G shows = sums_none G (function_of c.args.prices.now.costs) c.args.parts.now c.args.sum.now

pub add_parts-add_bound-requires : goal.add_parts-add_bound-requires
add_parts-add_bound-requires t c =
    let less : weight_of c.part-item.result < weights_of (typeds c.args.parts.now) = part_falls c.args.parts.now c.loop-part.part-index c.part-item.result c.loop-part-test.true (sym c.part-item.is) in
    (omega (arith, less, c.decreases), tt)

pub add_parts-loop-part-preserved : goal.add_parts-loop-part-preserved
add_parts-loop-part-preserved t c G shows = sums_turn G (function_of c.args.prices.now.costs) c.args.parts.now c.loop-part.part-index c.part-item.result c.args.sum.now c.loop-part.sum c.add_bound.new.sum c.loop-part-test.true (sym c.part-item.is) (λ B f s. c.add_bound.ensures G B f shows s) (c.loop-part.invariant G shows)

pub add_parts-returns : goal.add_parts-returns
add_parts-returns t c G p fs shows stands = sums_end G (function_of c.args.prices.now.costs) c.args.parts.now c.loop-part.part-index c.args.sum.now c.loop-part.sum p fs c.loop-part-test.false (c.loop-part.invariant G shows) stands
