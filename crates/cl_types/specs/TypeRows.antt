-- The fields of a tuple from a place on.
use Rattle.std.proofs.Common.{◌≡◌, ℕ, ◌+◌, ◌<◌, zero, suc, List, [], ◌∷◌, length, drop, get_or, arith, ap, sym}
use Rattle.cl_types.specs.Types.{PlainType, Field, fields}

pub fields_at : (fs : List (List ℕ × PlainType)) (i : ℕ) (f : List ℕ × PlainType) → i < length fs → f ≡ get_or fs i f → fields (drop i fs) ≡ Field f.0 f.1 (fields (drop (i + 1) fs))
fields_at [] i f h at = absurd (omega (arith, h))
fields_at (g ∷ fs) zero f h at = ap (λ (x : List ℕ × PlainType). Field x.0 x.1 (fields fs)) (sym at)
fields_at (g ∷ fs) (suc i) f h at =
    let two : suc i + 1 ≡ suc (i + 1) = omega arith in
    rw two (fields_at fs i f (omega (arith, h)) at)
