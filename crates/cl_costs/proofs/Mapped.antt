-- What an array's `map` gives, where each call has a known result.
use Rattle.std.proofs.Common.{◌≡◌, ◌<◌, ℕ, suc, List, [], ◌∷◌, length, get_or, map, refl, sym, ◌∙◌, arith}
use Rattle.std.proofs.lemmas.List.{map-id}
use Rattle.std.specs.Fn.{Mut, Called}
use Rattle.std.specs.Array.{IsMapOf}

module _ {A B C : Type 0} (v : B → C) (w : A → C) where
  same_by_place : (xs : List A) (ys : List B) → length ys ≡ length xs → ((i : ℕ) (x : A) (y : B) → i < length xs → v (get_or ys i y) ≡ w (get_or xs i x)) → map v ys ≡ map w xs
  same_by_place [] [] long same = refl
  same_by_place [] (y ∷ ys) long same = absurd (omega arith)
  same_by_place (x ∷ xs) [] long same = absurd (omega arith)
  same_by_place (x ∷ xs) (y ∷ ys) long same =
      let first : v y ≡ w x = same 0 x y (omega arith) in
      let rest : map v ys ≡ map w xs = same_by_place xs ys (omega arith) (λ i a b below. same (suc i) a b (omega arith)) in
      cc

  pub map_of_calls : {F : Type 0} (g : Mut F (A × Unit {0}) B) (f : F) (xs : List A) (ys : List B) (n : ℕ) → length xs ≡ n
      → ((p q : F) (x : A) (y : B) → Called g p (x, tt) y q → v y ≡ w x) → IsMapOf g f xs ys n → map v ys ≡ map w xs
  map_of_calls g f xs ys n long called mapped =
      same_by_place xs ys (mapped.long ∙ sym long)
      (λ i x y below. let call = mapped.at i x y (omega (arith, long)) in called call.0 call.1 _ _ call.2)

module _ {A B : Type 0} (w : A → B) where
  pub results_of_calls : {F : Type 0} (g : Mut F (A × Unit {0}) B) (f : F) (xs : List A) (ys : List B) (n : ℕ) → length xs ≡ n
      → ((p q : F) (x : A) (y : B) → Called g p (x, tt) y q → y ≡ w x) → IsMapOf g f xs ys n → ys ≡ map w xs
  results_of_calls g f xs ys n long called mapped = sym (map-id ys) ∙ map_of_calls (λ y. y) w g f xs ys n long called mapped
