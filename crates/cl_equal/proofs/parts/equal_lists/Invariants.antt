use Rattle.std.proofs.Common.{◌≡◌, take}
use Rattle.cl_equal.proofs.parts.equal_lists.Given as goal

abbrev pub invariant-loop-at : goal.invariant-loop-at
invariant-loop-at g l = take l.at l.first ≡ take l.at l.second
