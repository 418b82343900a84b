use Rattle.std.proofs.Common.{length}
use Rattle.cl_shapes.specs.declared.name.CostName.TheVariants.{Call}
use Rattle.cl_costs.specs.Tables.{function_of}
use Rattle.cl_rules.specs.Bills.{Charge, cost_under}
use Rattle.cl_rules.specs.ControlShapes.{binds}
use Rattle.cl_bound.proofs.Adding.{both_more, types_at}
use Rattle.cl_bound.proofs.forms.application.Goals as goal

pub returns : goal.returns
returns c G f shows stands =
    both_more c.charge_count-sum.result c.add_binds.new.sum c.add_bound.new.sum (cost_under (function_of c.args.prices.now.costs) (binds (types_at c.args.params.now))) (cost_under (function_of c.args.prices.now.costs) f.bound)
    c.add_binds.ensures (c.add_bound.ensures G c.args.params.now f shows stands)
    (cost_under (function_of c.args.prices.now.costs) (Charge Call (length c.args.params.now))) c.charge_count-sum.ensures
