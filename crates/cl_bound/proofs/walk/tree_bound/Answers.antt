use Rattle.cl_costs.specs.Tables.{function_of}
use Rattle.cl_bound.proofs.Adding.{all_more}
use Rattle.cl_bound.proofs.walk.tree_bound.Goals as goal
use Rattle.cl_rules.specs.Bills.{cost_under}

pub returns : goal.returns
returns c G B f shows stands = all_more c.add_bound.new.sum (cost_under (function_of c.args.prices.now.costs) f.bound) (c.add_bound.ensures G B f shows stands)
