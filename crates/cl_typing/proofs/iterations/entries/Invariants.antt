use Rattle.std.proofs.Common.{◌≡◌, map, take}
use Rattle.cl_types.specs.TypeKinds.{entry_of}
use Rattle.cl_typing.proofs.iterations.entries.Given as goal

abbrev pub invariant-loop-ty : goal.invariant-loop-ty
invariant-loop-ty l = l.entries.items ≡ map entry_of (map (λ t. t.now) (take l.ty-index l.types))
