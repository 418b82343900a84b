-- Rows of references.
use Rattle.std.proofs.Common.{◌≡◌, ℕ, zero, suc, ◌<◌, List, [], ◌∷◌, map, length, get_or, refl, ap, arith}

pub ref_length : {A B : Type 0} (f : A → B) (xs : List A) → length (map f xs) ≡ length xs
ref_length f [] = refl
ref_length f (x ∷ xs) = ap suc (ref_length f xs)

pub ref_less : {A B : Type 0} (f : A → B) (xs : List A) (i : ℕ) → i < length xs → i < length (map f xs)
ref_less f xs i lt = omega (arith, ref_length f xs, lt)

pub ref_at : {A B : Type 0} (f : A → B) (xs : List A) (i : ℕ) (x : A) → i < length xs → get_or xs i x ≡ x → get_or (map f xs) i (f x) ≡ f x
ref_at f [] i x lt at = absurd (omega (arith, lt))
ref_at f (y ∷ ys) zero x lt at = ap f at
ref_at f (y ∷ ys) (suc i) x lt at = ref_at f ys i x (omega (arith, lt)) at
