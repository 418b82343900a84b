use Rattle.std.proofs.Common.{◌≡◌, take}
use Rattle.cl_engine.proofs.call.copy_all.Given as goal

abbrev pub invariant-loop-arg : goal.invariant-loop-arg
invariant-loop-arg l = l.copies.items ≡ take l.arg-index l.args
