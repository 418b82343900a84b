use Rattle.cl_costs.specs.Tables.{function_of}
use Rattle.cl_bound.proofs.Stopping.{stop_here, stop_past}
use Rattle.cl_bound.proofs.stop.stop_at.Goals as goal

pub returns-in-Some : goal.returns-in-Some
returns-in-Some c D places shows = stop_here c.args.parts.now (function_of c.args.prices.now.costs) D c.args.place places c.in-Some.definition.now c.function_stop.result c.in-Some.ensures (c.function_stop.ensures D shows)

pub returns-in-None : goal.returns-in-None
returns-in-None c D places shows = stop_past c.args.parts.now (function_of c.args.prices.now.costs) D c.args.place places c.in-None.ensures
