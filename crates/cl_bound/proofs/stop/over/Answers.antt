use Rattle.std.proofs.Common.{Some, None}
use Rattle.cl_costs.specs.Tables.{function_of}
use Rattle.cl_rules.specs.Context.{signature_in}
use Rattle.cl_bound.proofs.Lookups.{found}
use Rattle.cl_bound.proofs.Stopping.{over_some, over_none}
use Rattle.cl_bound.proofs.stop.over.Goals as goal

pub returns-in-Some-above : goal.returns-in-Some-above
returns-in-Some-above c D shows = over_some (function_of c.args.prices.now.costs) c.args.span c.in-Some.application.now (signature_in c.args.name.now D.context.functions) (Some c.in-Some-above.dimension) (found c.args.prices.now c.args.name.now D.context shows (Some c.in-Some.application.now) c.in-Some.ensures.value) c.in-Some-above.ensures

pub returns-in-None-above : goal.returns-in-None-above
returns-in-None-above c D shows = over_some (function_of c.args.prices.now.costs) c.args.span c.in-Some.application.now (signature_in c.args.name.now D.context.functions) None (found c.args.prices.now c.args.name.now D.context shows (Some c.in-Some.application.now) c.in-Some.ensures.value) c.in-None-above.ensures

pub returns-in-None : goal.returns-in-None
returns-in-None c D shows = over_none (function_of c.args.prices.now.costs) c.args.span (signature_in c.args.name.now D.context.functions) (found c.args.prices.now c.args.name.now D.context shows None c.in-None.ensures.value)
