use Rattle.std.proofs.Common.{◌∙◌}
use Rattle.cl_costs.specs.Tables.{function_of}
use Rattle.cl_bound.proofs.TreeBounds.{good_sum, bad_sum}
use Rattle.cl_bound.proofs.branches.counted_branch.Goals as goal

pub returns-in-Good : goal.returns-in-Good
returns-in-Good c f inside = good_sum (function_of c.args.prices.now.costs) f c.args.input.now c.args.branch c.from.result c.charge.result c.args.inside.now c.add.result c.in-Good.is (c.from.ensures ∙ c.good_size.ensures.value) c.charge.ensures inside c.add.ensures

pub returns-in-Bad : goal.returns-in-Bad
returns-in-Bad c f inside = bad_sum (function_of c.args.prices.now.costs) f c.args.input.now c.args.branch c.from-in-Bad.result c.charge-in-Bad.result c.args.inside.now c.add-in-Bad.result c.in-Bad.is (c.from-in-Bad.ensures ∙ c.bad_size.ensures.value) c.charge-in-Bad.ensures inside c.add-in-Bad.ensures
