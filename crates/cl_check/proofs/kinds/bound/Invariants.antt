use Rattle.std.proofs.Common.{◌≡◌, take}
use Rattle.cl_check.proofs.kinds.bound.Given as goal

abbrev pub invariant-loop-param : goal.invariant-loop-param
invariant-loop-param l = l.scope.entries ≡ take l.param-index l.params
