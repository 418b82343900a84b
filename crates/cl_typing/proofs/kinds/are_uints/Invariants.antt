use Rattle.std.proofs.Common.{◌≡◌, map, drop}
use Rattle.std.specs.List.{list_all}
use Rattle.cl_types.specs.TypeKinds.{is_uint}
use Rattle.cl_typing.proofs.kinds.are_uints.Given as goal

abbrev pub invariant-loop-t : goal.invariant-loop-t
invariant-loop-t l = list_all is_uint (map (λ t. t.now) (drop l.t-index l.types)) ≡ list_all is_uint (map (λ t. t.now) l.types)
