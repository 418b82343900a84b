use Rattle.std.proofs.Common.{◌≡◌, map, drop}
use Rattle.cl_rules.specs.CallShapes.{least_length}
use Rattle.cl_typing.proofs.IterationRows.{least_from}
use Rattle.cl_typing.proofs.iterations.least_length.Given as goal

abbrev pub invariant-loop-ty : goal.invariant-loop-ty
invariant-loop-ty l = least_from l.least (map (λ t. t.now) (drop l.ty-index l.others)) ≡ least_length (map (λ t. t.now) l.types)
