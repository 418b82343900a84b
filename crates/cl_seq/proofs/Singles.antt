-- The entries of sequences by their places.
use Rattle.std.proofs.Common.{◌≡◌, ℕ, zero, suc, ◌<◌, ◌≤◌, true, List, [], ◌∷◌, length, slice_get, option_map, Option, Some, None, refl, sym, ap, ◌∙◌, arith, get_or}
use Rattle.std.specs.List.{list_all}
use Rattle.std.proofs.lemmas.Bool.{and_parts}
use Rattle.cl_values.specs.Tree.{Tree, ListV, items_of}
use Rattle.cl_values.proofs.Lists.{values_of_items}
use Rattle.cl_values.specs.Sequences.{singles, values_of}
use Rattle.cl_values.specs.Valid.{IsVal, AreVals, is_text_byte}
use Rattle.cl_values.proofs.Parts.{list_part, first_part, rest_part}

pub single_at : (make : List ℕ → Tree) (xs : List ℕ) (at : ℕ) → slice_get (singles make xs) at ≡ option_map (λ x. make (x ∷ [])) (slice_get xs at)
single_at make [] at = refl
single_at make (x ∷ xs) zero = refl
single_at make (x ∷ xs) (suc at) = single_at make xs at

pub text_at : (xs : List ℕ) (i x : ℕ) → list_all is_text_byte xs ≡ true → Some x ≡ slice_get xs i → is_text_byte x ≡ true
text_at [] i x h e = absurd cc
text_at (y ∷ xs) zero x h e = let same : y ≡ x = cc in rw (sym same) (and_parts (is_text_byte y) (list_all is_text_byte xs) h).0
text_at (y ∷ xs) (suc i) x h e = text_at xs i x (and_parts (is_text_byte y) (list_all is_text_byte xs) h).1 e

pub item_known : (vs : List Tree) (i : ℕ) (v : Tree) → AreVals (items_of vs) → i < length vs → v ≡ get_or vs i v → IsVal v
item_known [] i v h k e = absurd (omega (arith, k))
item_known (w ∷ vs) zero v h k e = rw e (first_part w (items_of vs) h)
item_known (w ∷ vs) (suc i) v h k e = item_known vs i v (rest_part w (items_of vs) h) (omega (arith, k)) e

pub item_of_list : (vs : List Tree) (i : ℕ) (v : Tree) → IsVal (ListV (items_of vs)) → i < length vs → v ≡ get_or vs i v → IsVal v
item_of_list vs i v h k e = item_known vs i v (list_part (items_of vs) h) k e

pub item_there : (vs : List Tree) (i : ℕ) (v : Tree) → i < length vs → v ≡ get_or vs i v → Some v ≡ slice_get vs i
item_there [] i v k e = absurd (omega (arith, k))
item_there (w ∷ vs) zero v k e = ap Some e
item_there (w ∷ vs) (suc i) v k e = item_there vs i v (omega (arith, k)) e

pub no_single : (make : List ℕ → Tree) (xs : List ℕ) (at : ℕ) → None ≡ slice_get xs at → None ≡ slice_get (singles make xs) at
no_single make xs at e = ap (option_map (λ x. make (x ∷ []))) e ∙ sym (single_at make xs at)

pub one_single : (make : List ℕ → Tree) (xs : List ℕ) (at x : ℕ) (w : Tree) → Some x ≡ slice_get xs at → w ≡ make (x ∷ []) → Some w ≡ slice_get (singles make xs) at
one_single make xs at x w e k = ap Some k ∙ ap (option_map (λ x. make (x ∷ []))) e ∙ sym (single_at make xs at)

pub listed : (vs : List Tree) (at : ℕ) (o : Option Tree) → o ≡ slice_get vs at → o ≡ slice_get (values_of (items_of vs)) at
listed vs at o e = e ∙ ap (λ l. slice_get l at) (sym (values_of_items vs))

pub nothing_there : (vs : List Tree) (at : ℕ) → length vs ≤ at → None ≡ slice_get vs at
nothing_there [] at h = refl
nothing_there (v ∷ vs) zero h = absurd (omega (arith, h))
nothing_there (v ∷ vs) (suc at) h = nothing_there vs at (omega (arith, h))
