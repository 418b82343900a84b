use Rattle.std.proofs.Common.{◌≡◌, map, take}
use Rattle.cl_typing.specs.Verdicts.{types_at}
use Rattle.cl_typing.proofs.verdicts.types_of.Given as goal

abbrev pub invariant-loop-part : goal.invariant-loop-part
invariant-loop-part l = map (λ t. t.now) l.types.items ≡ types_at (take l.part-index l.parts)
