-- Names that stand once.
use Rattle.std.proofs.Common.{◌≡◌, ℕ, Bool, true, false, List, [], ◌∷◌, refl, ap, ◌∙◌}
use Rattle.std.specs.Prelude.{◌&&◌, ◌||◌, not}
use Rattle.std.specs.List.{list_any}
use Rattle.cl_code.specs.Nodes.{are_once}
use Rattle.cl_rules.specs.Context.{same}
use Rattle.cl_rules.specs.DataShapes.{stands_twice}

neither : (a b : Bool) → not a && not b ≡ not (a || b)
neither true b = refl
neither false b = refl

pub once_is : (keys : List (List ℕ)) → are_once keys ≡ not (stands_twice keys)
once_is [] = refl
once_is (k ∷ ks) = ap (λ b. not (list_any (same k) ks) && b) (once_is ks) ∙ neither (list_any (same k) ks) (stands_twice ks)
