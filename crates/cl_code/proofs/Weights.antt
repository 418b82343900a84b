-- Trees and their parts.
use Rattle.std.proofs.Common.{◌≡◌, ℕ, zero, suc, ◌<◌, List, [], ◌∷◌, length, get_or, ap, arith}
use Rattle.cl_code.specs.Typed.{Typed, typeds, weight_of, weights_of}

-- a part weighs less than all parts together
pub part_falls : (qs : List Typed) (i : ℕ) (q : Typed) → i < length qs → get_or qs i q ≡ q → weight_of q < weights_of (typeds qs)
part_falls [] i q lt at = absurd (omega (arith, lt))
part_falls (p ∷ qs) zero q lt at = let same : weight_of p ≡ weight_of q = ap weight_of at in omega (arith, same)
part_falls (p ∷ qs) (suc i) q lt at = omega (arith, part_falls qs i q (omega (arith, lt)) at)
