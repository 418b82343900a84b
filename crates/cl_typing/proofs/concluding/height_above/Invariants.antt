use Rattle.std.proofs.Common.{◌≡◌, max, drop}
use Rattle.cl_typing.specs.Verdicts.{heights}
use Rattle.cl_typing.proofs.concluding.height_above.Given as goal

abbrev pub invariant-loop-part : goal.invariant-loop-part
invariant-loop-part l = max l.greatest (heights (drop l.part-index l.parts)) ≡ max l.applied (heights l.parts)
