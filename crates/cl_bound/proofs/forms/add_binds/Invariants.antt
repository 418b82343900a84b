use Rattle.std.proofs.Common.{◌≡◌, drop}
use Rattle.cl_shapes.specs.declared.cost.Cost5.{Cost5}
use Rattle.cl_shapes.specs.Costs.{plus}
use Rattle.cl_costs.specs.Tables.{function_of}
use Rattle.cl_rules.specs.Bills.{cost_under}
use Rattle.cl_rules.specs.ControlShapes.{binds}
use Rattle.cl_sums.specs.Sums.{told}
use Rattle.cl_bound.proofs.Adding.{Adds, types_at}
use Rattle.cl_bound.proofs.forms.add_binds.Given as goal

abbrev pub invariant-loop-param : goal.invariant-loop-param
invariant-loop-param l = (a : Cost5) → l.fn.sum ≡ told a → Adds (plus a (cost_under (function_of l.prices.costs) (binds (types_at l.params)))) (cost_under (function_of l.prices.costs) (binds (types_at (drop l.param-index l.params)))) l.sum
