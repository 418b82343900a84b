use Rattle.std.proofs.Common.{◌≡◌, drop}
use Rattle.cl_costs.specs.Schedules.{last_begun}
use Rattle.cl_costs.proofs.schedule.Schedule.at.Given as goal

abbrev pub invariant-loop-i : goal.invariant-loop-i
invariant-loop-i l = last_begun l.height l.table (drop l.i l.self-inside.epochs.items) ≡ last_begun l.height l.self-inside.first l.self-inside.epochs.items
