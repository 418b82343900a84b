-- Each part of a tree weighs less than the tree.
use Rattle.std.specs.Prelude.{◌+◌, ◌≤◌, List, [], ◌∷◌}
use Rattle.std.proofs.Common.{arith}
use denote.Param.Weighed.{most}
use Rattle.cl_code.specs.Typed.{Typed, typeds, weight_of, weights_of}

pub most_le : (ps : List Typed) → most (λ p. weight_of p + 1) ps ≤ weights_of (typeds ps)
most_le [] = omega arith
most_le (p ∷ ps) = omega (arith, most_le ps)
