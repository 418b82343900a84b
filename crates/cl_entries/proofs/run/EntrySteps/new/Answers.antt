use Rattle.std.proofs.Common.{[], subst, sym}
use Rattle.cl_costs.specs.Schedules.{ScheduleSeen}
use Rattle.cl_entries.specs.Entries.{IsRunning}
use Rattle.cl_entries.proofs.Running.{running_first}
use Rattle.cl_entries.proofs.run.EntrySteps.new.Goals as goal

pub returns : goal.returns
returns c =
    subst (λ (s : ScheduleSeen). IsRunning c.args.costs.now c.args.file c.args.state [] (record { file = c.args.file; schedule = s; state = c.args.state; node = c.in_ok-node.node; done = 0 })) (sym c.in_ok-costs.ensures)
    (running_first c.args.costs.now c.args.file c.args.state c.in_ok-node.node c.in_ok-node.ensures.holders c.in_ok-node.ensures.first)
