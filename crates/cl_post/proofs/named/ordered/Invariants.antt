use Rattle.std.proofs.Common.{◌≤◌, drop, length}
use Rattle.cl_post.specs.Holdings.{AreNamed}
use Rattle.cl_post.proofs.named.ordered.Given as goal

abbrev pub invariant-loop-i : goal.invariant-loop-i
invariant-loop-i l = record { within : l.i ≤ length l.conditions; named : AreNamed (drop l.i l.conditions) l.named }

abbrev pub decreases-loop-i : goal.decreases-loop-i
decreases-loop-i l = l.i
