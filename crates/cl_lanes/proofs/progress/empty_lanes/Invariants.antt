use Rattle.std.proofs.Common.{◌≡◌, replicate, None}
use Rattle.cl_lanes.proofs.progress.empty_lanes.Given as goal

abbrev pub invariant-loop-lane : goal.invariant-loop-lane
invariant-loop-lane l = l.held.items ≡ replicate l.lane None
