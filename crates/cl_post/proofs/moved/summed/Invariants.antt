use Rattle.std.proofs.Common.{◌≤◌, drop, length}
use Rattle.cl_post.specs.Holdings.{AreSums}
use Rattle.cl_post.proofs.moved.summed.Given as goal

abbrev pub invariant-loop-i : goal.invariant-loop-i
invariant-loop-i l = record { within : l.i ≤ length l.moves; sums : AreSums (drop l.i l.moves) l.sums }

abbrev pub decreases-loop-i : goal.decreases-loop-i
decreases-loop-i l = l.i
