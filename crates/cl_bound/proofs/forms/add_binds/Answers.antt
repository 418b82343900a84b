use Rattle.std.proofs.Common.{refl, sym, ◌∙◌}
use Rattle.cl_shapes.specs.Costs.{plus}
use Rattle.cl_costs.specs.Tables.{function_of}
use Rattle.cl_rules.specs.Bills.{cost_under}
use Rattle.cl_rules.specs.ControlShapes.{binds}
use Rattle.cl_bound.proofs.Adding.{params_turn, params_end, types_at}
use Rattle.cl_bound.proofs.forms.add_binds.Goals as goal

pub loop-param-init : goal.loop-param-init
loop-param-init c a is = (a, is, refl)

pub loop-param-preserved : goal.loop-param-preserved
loop-param-preserved c a is = params_turn (function_of c.args.prices.now.costs) (plus a (cost_under (function_of c.args.prices.now.costs) (binds (types_at c.args.params.now)))) c.args.params.now c.loop-param.param-index c.from.result c.param-item.result c.loop-param.sum c.add_charge.new.sum c.loop-param-test.true (sym c.param-item.is) (c.from.ensures ∙ c.size.ensures.counted) c.add_charge.ensures (c.loop-param.invariant a is)

pub returns : goal.returns
returns c a is = params_end (function_of c.args.prices.now.costs) (plus a (cost_under (function_of c.args.prices.now.costs) (binds (types_at c.args.params.now)))) c.args.params.now c.loop-param.param-index c.loop-param.sum c.loop-param-test.false (c.loop-param.invariant a is)
