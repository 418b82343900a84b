-- Rows that are read one item after another.
use Rattle.std.proofs.Common.{◌≡◌, ℕ, ◌+◌, ◌<◌, ◌≤◌, List, [], ◌∷◌, ◌++◌, map, length, take, get_or, sym, ap, ◌∙◌}
use Rattle.std.proofs.lemmas.List.{map_push, take_more, take_all}

-- one more of the items
pub one_taken : {A : Type 0} (xs : List A) (i : ℕ) (x : A) → i < length xs → x ≡ get_or xs i x → take i xs ++ x ∷ [] ≡ take (i + 1) xs
one_taken xs i x lt at = ap (λ (y : _). take i xs ++ y ∷ []) at ∙ sym (take_more xs i x lt)

-- one more of what is read of the items
pub one_read : {A B : Type 0} (g : A → B) (xs : List A) (i : ℕ) (x : A) → i < length xs → x ≡ get_or xs i x → map g (take i xs) ++ g x ∷ [] ≡ map g (take (i + 1) xs)
one_read g xs i x lt at = sym (map_push g (take i xs) x) ∙ ap (map g) (one_taken xs i x lt at)

-- one more value, which shows as what is read
pub one_shown : {A B : Type 0} (f : A → B) (done more : List A) (a : A) (so_far : List B) (b : B) → more ≡ done ++ a ∷ [] → f a ≡ b → map f done ≡ so_far → map f more ≡ so_far ++ b ∷ []
one_shown f done more a so_far b grown is h = ap (map f) grown ∙ map_push f done a ∙ ap (λ (bs : List _). bs ++ f a ∷ []) h ∙ ap (λ (c : _). so_far ++ c ∷ []) is

-- the items are at their end
pub all_taken : {A : Type 0} (xs : List A) (i : ℕ) → length xs ≤ i → take i xs ≡ xs
all_taken xs i far = take_all i xs far
