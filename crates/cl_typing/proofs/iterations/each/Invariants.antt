use Rattle.std.proofs.Common.{◌≡◌, map, take}
use Rattle.cl_typing.proofs.iterations.each.Given as goal

abbrev pub invariant-loop-ty : goal.invariant-loop-ty
invariant-loop-ty l = map (λ t. t.now) l.each.items ≡ take l.ty-index l.types
