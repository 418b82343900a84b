use Rattle.cl_arith.proofs.uints.checked_power.Given as goal
use Rattle.cl_arith.proofs.Powers.{IsUnderway}

-- what is taken already, times what is left to take, is the power
abbrev pub invariant-loop-left : goal.invariant-loop-left
invariant-loop-left l = IsUnderway l.base l.exponent l.power l.square l.left

abbrev pub decreases-loop-left : goal.decreases-loop-left
decreases-loop-left l = l.left
