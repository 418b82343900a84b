use Rattle.std.proofs.Common.{◌≡◌, drop, map}
use Rattle.cl_shapes.specs.declared.cost.Cost5.{Cost5}
use Rattle.cl_shapes.specs.Costs.{plus}
use Rattle.cl_costs.specs.Tables.{function_of}
use Rattle.cl_rules.specs.Bills.{cost_under}
use Rattle.cl_rules.specs.ControlShapes.{binds}
use Rattle.cl_code.specs.Typed.{type_of}
use Rattle.cl_sums.specs.Sums.{told}
use Rattle.cl_bound.proofs.Adding.{Adds}
use Rattle.cl_bound.proofs.own.add_binds.Given as goal

abbrev pub invariant-loop-part : goal.invariant-loop-part
invariant-loop-part l = (a : Cost5) → l.fn.sum ≡ told a → Adds (plus a (cost_under (function_of l.prices.costs) (binds (map type_of l.parts)))) (cost_under (function_of l.prices.costs) (binds (map type_of (drop l.part-index l.parts)))) l.sum
