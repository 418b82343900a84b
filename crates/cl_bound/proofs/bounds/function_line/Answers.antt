use Rattle.std.proofs.Common.{Some, None}
use Rattle.cl_costs.specs.Tables.{function_of}
use Rattle.cl_rules.specs.Context.{signature_in}
use Rattle.cl_bound.proofs.Lookups.{found}
use Rattle.cl_bound.proofs.Lines.{line_some, line_none}
use Rattle.cl_bound.proofs.bounds.function_line.Goals as goal

pub returns-in-Some : goal.returns-in-Some
returns-in-Some c D shows within = line_some (function_of c.args.prices.now.costs) c.args.name.now c.in-Some.application.now (signature_in c.args.name.now D.context.functions) c.saturated.result (found c.args.prices.now c.args.name.now D.context shows (Some c.in-Some.application.now) c.in-Some.ensures.value) within c.saturated.ensures

pub returns-in-None : goal.returns-in-None
returns-in-None c D shows within = line_none (function_of c.args.prices.now.costs) c.args.name.now (signature_in c.args.name.now D.context.functions) (found c.args.prices.now c.args.name.now D.context shows None c.in-None.ensures.value)
