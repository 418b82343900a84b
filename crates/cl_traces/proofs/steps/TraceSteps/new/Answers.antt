use Rattle.std.proofs.Common.{[], subst, sym}
use Rattle.cl_costs.specs.Schedules.{ScheduleSeen}
use Rattle.cl_traces.specs.Traces.{IsTracing}
use Rattle.cl_traces.proofs.Tracing.{tracing_first}
use Rattle.cl_traces.proofs.steps.TraceSteps.new.Goals as goal

pub returns : goal.returns
returns c =
    subst (λ (s : ScheduleSeen). IsTracing c.args.costs.now c.args.file [] (record { file = c.args.file; schedule = s; node = c.in_ok-node.node; done = 0 })) (sym c.in_ok-costs.ensures)
    (tracing_first c.args.costs.now c.args.file c.in_ok-node.node c.in_ok-node.ensures.holders c.in_ok-node.ensures.first)
