use Rattle.std.proofs.Common.{◌≡◌, map, drop}
use Rattle.std.specs.List.{list_any}
use Rattle.cl_types.specs.TypeKinds.{is_undetermined}
use Rattle.cl_typing.proofs.uses.any_undetermined.Given as goal

abbrev pub invariant-loop-ty : goal.invariant-loop-ty
invariant-loop-ty l = list_any is_undetermined (map (λ t. t.now) (drop l.ty-index l.types)) ≡ list_any is_undetermined (map (λ t. t.now) l.types)
