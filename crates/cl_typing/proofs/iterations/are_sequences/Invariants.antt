use Rattle.std.proofs.Common.{◌≡◌, map, drop}
use Rattle.std.specs.List.{list_all}
use Rattle.cl_types.specs.TypeKinds.{is_sequence}
use Rattle.cl_typing.proofs.iterations.are_sequences.Given as goal

abbrev pub invariant-loop-ty : goal.invariant-loop-ty
invariant-loop-ty l = list_all is_sequence (map (λ t. t.now) (drop l.ty-index l.types)) ≡ list_all is_sequence (map (λ t. t.now) l.types)
