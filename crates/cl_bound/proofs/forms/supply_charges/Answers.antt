use Rattle.std.proofs.Common.{[]}
use Rattle.cl_costs.specs.Tables.{function_of}
use Rattle.cl_bound.proofs.forms.supply_charges.Goals as goal
use Rattle.cl_rules.specs.Bills.{cost_under}

pub returns : goal.returns
returns c G f shows stands = c.add_charge.ensures (cost_under (function_of c.args.prices.now.costs) f.bound) (c.tree_bound-sum.ensures G [] f shows stands)
