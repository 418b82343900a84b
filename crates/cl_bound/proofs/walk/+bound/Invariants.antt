use Rattle.std.proofs.Common.{drop}
use Rattle.cl_costs.specs.Tables.{function_of}
use Rattle.cl_rules.specs.Context.{Context}
use Rattle.cl_code.specs.Typed.{typeds, weight_of, weights_of}
use Rattle.cl_bound.specs.Seen.{ShowsPrices}
use Rattle.cl_bound.proofs.TreeBounds.{Sums}
use Rattle.cl_bound.proofs.walk.+bound.Given as goal

abbrev pub invariant-add_parts-loop-part : goal.invariant-add_parts-loop-part
invariant-add_parts-loop-part l = (G : Context) → ShowsPrices l.prices G → Sums G (function_of l.prices.costs) l.parts (drop l.part-index l.parts) l.fn.sum l.sum

abbrev pub decreases-add_bound : goal.decreases-add_bound
decreases-add_bound l = weight_of l.code.now

abbrev pub decreases-add_parts : goal.decreases-add_parts
decreases-add_parts l = weights_of (typeds l.parts.now)

abbrev pub decreases-branches_bound : goal.decreases-branches_bound
decreases-branches_bound l = weights_of (typeds l.parts.now)
