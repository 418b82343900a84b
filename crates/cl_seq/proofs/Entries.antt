-- How many entries there are, and entries one behind another.
use Rattle.std.proofs.Common.{◌≡◌, ℕ, suc, ◌+◌, max, ◌&&◌, Bool, true, false, List, [], ◌∷◌, ◌++◌, length, refl, sym, ap, ◌∙◌, arith, subst, append_assoc, nat_le, ◌<◌, if◌then◌else◌}
use Rattle.std.proofs.lemmas.Bool.{and_parts, and_from}
use Rattle.std.proofs.lemmas.List.{append-nil}
use Rattle.cl_values.specs.Tree.{Tree, ListV, items_of, depth_of, items_depth}
use Rattle.cl_values.specs.Wire.{items_size, size_of}
use Rattle.cl_values.specs.Sequences.{values_of, append, concat}
use Rattle.cl_values.specs.Computed.{Gives, Undefined}
use Rattle.cl_values.specs.Valid.{IsVal, ItemsInRange, has_rising_keys, has_good_texts, items_have_rising_keys, items_have_good_texts}
use Rattle.cl_values.proofs.Lists.{values_of_items}
use Rattle.cl_seq.specs.Fine.{IsFine}
use Rattle.cl_values.specs.Computed.{kept}

pub values_counted : (vs : List Tree) → length (values_of (items_of vs)) ≡ length vs
values_counted [] = refl
values_counted (v ∷ vs) = ap suc (values_counted vs)

-- ---- lists one behind another

both_sizes : (xs ys : List Tree) → items_size (items_of (xs ++ ys)) ≡ items_size (items_of xs) + items_size (items_of ys)
both_sizes [] ys = omega arith
both_sizes (x ∷ xs) ys = omega (arith, both_sizes xs ys)

both_depths : (xs ys : List Tree) → items_depth (items_of (xs ++ ys)) ≡ max (items_depth (items_of xs)) (items_depth (items_of ys))
both_depths [] ys = omega arith
both_depths (x ∷ xs) ys = omega (arith, both_depths xs ys)

both_ranges : (xs ys : List Tree) → ItemsInRange (items_of xs) → ItemsInRange (items_of ys) → ItemsInRange (items_of (xs ++ ys))
both_ranges [] ys h k = k
both_ranges (x ∷ xs) ys h k = (h.0, both_ranges xs ys h.1 k)

both_keys : (xs ys : List Tree) → items_have_rising_keys (items_of xs) ≡ true → items_have_rising_keys (items_of ys) ≡ true → items_have_rising_keys (items_of (xs ++ ys)) ≡ true
both_keys [] ys h k = k
both_keys (x ∷ xs) ys h k =
    and_from (has_rising_keys x) (items_have_rising_keys (items_of (xs ++ ys))) (and_parts (has_rising_keys x) (items_have_rising_keys (items_of xs)) h).0
    (both_keys xs ys (and_parts (has_rising_keys x) (items_have_rising_keys (items_of xs)) h).1 k)

both_texts : (xs ys : List Tree) → items_have_good_texts (items_of xs) ≡ true → items_have_good_texts (items_of ys) ≡ true → items_have_good_texts (items_of (xs ++ ys)) ≡ true
both_texts [] ys h k = k
both_texts (x ∷ xs) ys h k =
    and_from (has_good_texts x) (items_have_good_texts (items_of (xs ++ ys))) (and_parts (has_good_texts x) (items_have_good_texts (items_of xs)) h).0
    (both_texts xs ys (and_parts (has_good_texts x) (items_have_good_texts (items_of xs)) h).1 k)

pub joined_fine : (xs ys zs : List Tree) → zs ≡ xs ++ ys → IsVal (ListV (items_of xs)) → IsVal (ListV (items_of ys)) → IsFine (ListV (items_of zs))
joined_fine xs ys zs e h k =
    subst (λ l. IsFine (ListV (items_of l))) (sym e) (record { ranges = both_ranges xs ys h.ranges k.ranges; keys = both_keys xs ys h.keys k.keys; texts = both_texts xs ys h.texts k.texts })

pub joined_size : (xs ys zs : List Tree) → zs ≡ xs ++ ys → size_of (ListV (items_of zs)) + 5 ≡ size_of (ListV (items_of xs)) + size_of (ListV (items_of ys))
joined_size xs ys zs e = let k : items_size (items_of zs) ≡ items_size (items_of xs) + items_size (items_of ys) = ap (λ l. items_size (items_of l)) e ∙ both_sizes xs ys in omega (arith, k)

pub joined_depth : (xs ys zs : List Tree) → zs ≡ xs ++ ys → depth_of (ListV (items_of zs)) ≡ max (depth_of (ListV (items_of xs))) (depth_of (ListV (items_of ys)))
joined_depth xs ys zs e = let k : items_depth (items_of zs) ≡ max (items_depth (items_of xs)) (items_depth (items_of ys)) = ap (λ l. items_depth (items_of l)) e ∙ both_depths xs ys in omega (arith, k)

pub joined_value : (xs ys zs : List Tree) → zs ≡ xs ++ ys → concat (ListV (items_of xs) ∷ ListV (items_of ys) ∷ []) ≡ Gives (ListV (items_of zs))
joined_value xs ys zs e =
    ap (λ l. Gives (ListV (items_of (l ++ values_of (items_of ys))))) (values_of_items xs) ∙ ap (λ l. Gives (ListV (items_of (xs ++ l)))) (values_of_items ys) ∙ ap (λ l. Gives (ListV (items_of l))) (sym e)

-- ---- one more at the end

pub more_fine : (xs : List Tree) (v : Tree) (zs : List Tree) → zs ≡ xs ++ v ∷ [] → IsFine (ListV (items_of xs)) → IsVal v → IsFine (ListV (items_of zs))
more_fine xs v zs e h k =
    subst (λ l. IsFine (ListV (items_of l))) (sym e) (record {
      ranges = both_ranges xs (v ∷ []) h.ranges (k.ranges, tt);
      keys = both_keys xs (v ∷ []) h.keys (and_from (has_rising_keys v) true k.keys refl);
      texts = both_texts xs (v ∷ []) h.texts (and_from (has_good_texts v) true k.texts refl);
    })

pub more_depth : (xs : List Tree) (v : Tree) (zs : List Tree) → zs ≡ xs ++ v ∷ [] → items_depth (items_of zs) ≡ max (depth_of v) (items_depth (items_of xs))
more_depth xs v zs e = let k : items_depth (items_of zs) ≡ max (items_depth (items_of xs)) (items_depth (items_of (v ∷ []))) = ap (λ l. items_depth (items_of l)) e ∙ both_depths xs (v ∷ []) in omega (arith, k)

lost : (d b : Bool) (v : Tree) → b ≡ false → (if d && b then Gives v else Undefined) ≡ Undefined
lost true b v h = ap (λ x. if x then Gives v else Undefined) h
lost false b v h = refl

above_false : (m n : ℕ) → n < m → nat_le m n ≡ false
above_false m n h = grind (arith, h)

pub beyond : (v : Tree) → 1048576 < size_of v → kept (Gives v) ≡ Undefined
beyond v h = lost (nat_le (depth_of v) 32) (nat_le (size_of v) 1048576) v (above_false (size_of v) 1048576 h)

pub too_large : (xs ys zs : List Tree) → xs ++ ys ≡ zs → 1048576 < size_of (ListV (items_of xs)) → kept (Gives (ListV (items_of zs))) ≡ Undefined
too_large xs ys zs e h =
    let k : items_size (items_of zs) ≡ items_size (items_of xs) + items_size (items_of ys) = ap (λ l. items_size (items_of l)) (sym e) ∙ both_sizes xs ys in
    beyond (ListV (items_of zs)) (omega (arith, k, h))

pub turned : {A : Type 0} (xs ys zs us : List A) (v : A) → xs ++ us ≡ zs → us ≡ v ∷ ys → (xs ++ v ∷ []) ++ ys ≡ zs
turned xs ys zs us v e h = append_assoc xs (v ∷ []) ys ∙ ap (λ l. xs ++ l) (sym h) ∙ e

pub ended : {A : Type 0} (xs us zs : List A) → xs ++ us ≡ zs → length us ≡ 0 → zs ≡ xs
ended xs [] zs e h = sym e ∙ append-nil xs
ended xs (u ∷ us) zs e h = absurd (omega (arith, h))

pub longer_size : (xs : List Tree) (v : Tree) (zs : List Tree) → zs ≡ xs ++ v ∷ [] → size_of (ListV (items_of zs)) ≡ size_of (ListV (items_of xs)) + size_of v
longer_size xs v zs e = let k : items_size (items_of zs) ≡ items_size (items_of xs) + items_size (items_of (v ∷ [])) = ap (λ l. items_size (items_of l)) e ∙ both_sizes xs (v ∷ []) in omega (arith, k)

pub longer_depth : (xs : List Tree) (v : Tree) (zs : List Tree) → zs ≡ xs ++ v ∷ [] → depth_of (ListV (items_of zs)) ≡ max (depth_of (ListV (items_of xs))) (depth_of v + 1)
longer_depth xs v zs e = let k : items_depth (items_of zs) ≡ max (items_depth (items_of xs)) (items_depth (items_of (v ∷ []))) = ap (λ l. items_depth (items_of l)) e ∙ both_depths xs (v ∷ []) in omega (arith, k)

pub longer_value : (xs : List Tree) (v : Tree) (zs : List Tree) → zs ≡ xs ++ v ∷ [] → append (ListV (items_of xs) ∷ v ∷ []) ≡ Gives (ListV (items_of zs))
longer_value xs v zs e = ap (λ l. Gives (ListV (items_of (l ++ v ∷ [])))) (values_of_items xs) ∙ ap (λ l. Gives (ListV (items_of l))) (sym e)
