use Rattle.std.proofs.Common.{◌≡◌, ◌+◌, drop}
use Rattle.cl_costs.specs.Schedules.{begun}
use Rattle.cl_costs.proofs.schedule.Schedule.epoch.Given as goal

abbrev pub invariant-loop-i : goal.invariant-loop-i
invariant-loop-i l = l.begun + begun l.height (drop l.i l.self-inside.epochs.items) ≡ begun l.height l.self-inside.epochs.items
