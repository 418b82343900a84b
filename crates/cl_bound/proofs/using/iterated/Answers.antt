use Rattle.std.proofs.Common.{map}
use Rattle.cl_costs.specs.Tables.{function_of}
use Rattle.cl_bound.specs.Own.{given}
use Rattle.cl_code.specs.Typed.{type_of}
use Rattle.cl_bound.proofs.ByNames.{iterated_sum}
use Rattle.cl_bound.proofs.using.iterated.Goals as goal

pub returns : goal.returns
returns c G ts shows count sizes = iterated_sum (given G c.args.applied.now) (map type_of c.args.parts.now) ts (function_of c.args.prices.now.costs) c.sizes.result c.args.times c.charge-iteration.result c.applied_to-one.result c.times.result c.add.result c.sizes.ensures.value c.charge-iteration.ensures (c.applied_to-one.ensures G ts shows count sizes) c.times.ensures c.add.ensures
