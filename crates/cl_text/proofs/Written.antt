-- Texts that are written piece by piece.
use Rattle.std.proofs.Common.{◌≡◌, ◌==◌, ◌+◌, ◌<◌, ◌≤◌, ◌++◌, ℕ, List, [], ◌∷◌, length, drop, get_or, Result, Ok, Err, true, arith, refl, ap, sym, ◌∙◌, append_assoc, append-nil}
use Rattle.std.specs.Prelude.{IfOk}
use Rattle.std.specs.List.{flat_map}
use Rattle.std.proofs.lemmas.Bool.Decides.{nat_tests}
use Rattle.std.proofs.lemmas.List.{drop_all, drop_more}

-- one text behind another
behind : (a b d x y : List ℕ) → b ≡ a ++ x → d ≡ b ++ y → d ≡ a ++ (x ++ y)
behind a b d x y p q = q ∙ ap (λ (z : List ℕ). z ++ y) p ∙ append_assoc a x y

pub if_behind : {E : Type 0} (r : Result (Unit {0}) E) (a b d x y : List ℕ) → b ≡ a ++ x → IfOk r (λ _. d ≡ b ++ y) → IfOk r (λ _. d ≡ a ++ (x ++ y))
if_behind (Ok u) a b d x y p q = behind a b d x y p q
if_behind (Err e) a b d x y p q = tt

-- a part behind what stands in front of it
pub further : (a b d x y rest : List ℕ) → b ≡ a ++ x → d ≡ b ++ y → a ++ (x ++ (y ++ rest)) ≡ d ++ rest
further a b d x y rest p q =
    sym (append_assoc a x (y ++ rest)) ∙ sym (append_assoc (a ++ x) y rest) ∙ ap (λ (z : List ℕ). (z ++ y) ++ rest) (sym p) ∙ ap (λ (z : List ℕ). z ++ rest) (sym q)

-- what is left of a row of no length
pub none_left : {A : Type 0} (xs : List A) → length xs ≡ 0 → xs ≡ []
none_left [] h = refl
none_left (x ∷ xs) h = absurd (omega (arith, h))

pub none_counted : {A : Type 0} (xs : List A) → true ≡ (length xs == 0) → xs ≡ []
none_counted [] h = refl
none_counted (x ∷ xs) h = absurd (some (length (x ∷ xs)) (omega arith) (sym h))
  where
    some : (n : ℕ) → 1 ≤ n → (n == 0) ≡ true → ⊥
    some n h e = grind (arith, nat_tests)

-- the texts of the elements of a row, one behind another
module _ (f : ℕ → List ℕ) (xs : List ℕ) (i : ℕ) (a whole : List ℕ) (inv : whole ≡ a ++ flat_map f (drop i xs)) where
  pub one_mapped : (d : ℕ) (b : List ℕ) → i < length xs → b ≡ a ++ f (get_or xs i d) → whole ≡ b ++ flat_map f (drop (i + 1) xs)
  one_mapped d b inside written =
      inv ∙ ap (λ (ys : List ℕ). a ++ flat_map f ys) (drop_more xs i d inside)
      ∙ sym (append_assoc a (f (get_or xs i d)) (flat_map f (drop (i + 1) xs)))
      ∙ ap (λ (z : List ℕ). z ++ flat_map f (drop (i + 1) xs)) (sym written)

  pub all_mapped : length xs ≤ i → a ≡ whole
  all_mapped past = sym (inv ∙ ap (λ (ys : List ℕ). a ++ flat_map f ys) (drop_all i xs past) ∙ append-nil a)
