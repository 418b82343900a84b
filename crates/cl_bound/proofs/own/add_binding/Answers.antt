use Rattle.cl_costs.specs.Tables.{function_of}
use Rattle.cl_bound.proofs.Adding.{let_sum}
use Rattle.cl_bound.proofs.own.add_binding.Goals as goal

pub returns : goal.returns
returns c = let_sum (function_of c.args.prices.now.costs) c.args.parts.now c.front.result.now c.args.bindings c.saturating_sub-bodies.result c.args.sum.now c.add_charge.new.sum c.add_binds.new.sum c.front.ensures c.saturating_sub-bodies.ensures c.add_charge.ensures c.add_binds.ensures
