use Rattle.std.proofs.Common.{◌≡◌, map, drop, ◌++◌, [], ◌∷◌}
use Rattle.cl_rules.specs.ControlShapes.{is_unused}
use Rattle.cl_typing.proofs.rows.last.Given as goal

abbrev pub invariant-loop-ty : goal.invariant-loop-ty
invariant-loop-ty l = is_unused (map (λ t. t.now) l.types) ≡ is_unused (map (λ t. t.now) (drop l.ty-index l.others ++ l.last ∷ []))
