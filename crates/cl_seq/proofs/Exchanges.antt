-- Sequences with one entry replaced: they keep all limits but depth and size, and what is made of them is what the row gives.
use Rattle.std.proofs.Common.{◌≡◌, ℕ, zero, suc, ◌+◌, ◌≤◌, ◌<◌, ◌&&◌, max, not, Bool, true, false, List, [], ◌∷◌, length, nat_le, nat_lt, if◌then◌else◌, option_map, Option, Some, None, Result, Ok, Err, refl, sym, ap, ◌∙◌, arith, slice_set, subst}
use Rattle.std.specs.List.{list_all, All}
use Rattle.std.specs.Str.{all_scalars}
use Rattle.std.proofs.lemmas.Bool.{and_parts, and_from}
use Rattle.std.proofs.lemmas.List.Elements.{All-set}
use Rattle.cl_values.specs.declared.refusal.ValueRefusal.{ValueRefusal}
use Rattle.cl_values.specs.declared.refusal.ValueRefusal.TheVariants as refusals
use Rattle.cl_values.specs.Tree.{Tree, BuffV, AsciiV, Utf8V, ListV, SomeV, items_of, depth_of, items_depth}
use Rattle.cl_values.specs.Wire.{size_of}
use Rattle.cl_values.specs.Valid.{IsVal, ItemsInRange, made, is_text_byte, has_rising_keys, has_good_texts, items_have_rising_keys, items_have_good_texts}
use Rattle.cl_values.specs.Computed.{Computed, Gives, Undefined, kept, is_within}
use Rattle.cl_values.specs.Sequences.{values_of, optional}
use Rattle.cl_values.specs.Contents.{with_entry, with_single}
use Rattle.cl_values.proofs.Lists.{values_of_items}
use Rattle.cl_seq.specs.Fine.{IsFine}

-- ---- a tree that is fine is made where it is within the limits

deep : (m n : ℕ) → nat_lt m n ≡ true → nat_le n m ≡ false
deep m n h = grind (arith, h)

shallow : (m n : ℕ) → nat_lt m n ≡ false → nat_le n m ≡ true
shallow m n h = grind (arith, h)

and_false : (b : Bool) → (b && false) ≡ false
and_false true = refl
and_false false = refl

-- what is made, by the four tests
abbrev made_by : Bool → Bool → Bool → Bool → Tree → Result Tree ValueRefusal
made_by rising good too_deep too_large v =
    if not rising then Err refusals.BadTuple else if not good then Err refusals.BadText else if too_deep then Err refusals.TooDeep else if too_large then Err refusals.TooLarge else Ok v

made_fine : (v : Tree) → IsFine v → made v ≡ made_by true true (nat_lt 32 (depth_of v)) (nat_lt 1048576 (size_of v)) v
made_fine v h =
    ap (λ b. made_by b (has_good_texts v) (nat_lt 32 (depth_of v)) (nat_lt 1048576 (size_of v)) v) h.keys
    ∙ ap (λ b. made_by true b (nat_lt 32 (depth_of v)) (nat_lt 1048576 (size_of v)) v) h.texts

gives_by : (v w : Tree) (d s : Bool) → nat_lt 32 (depth_of v) ≡ d → nat_lt 1048576 (size_of v) ≡ s → Ok w ≡ made_by true true d s v → kept (Gives v) ≡ Gives w
gives_by v w true s p q e = absurd cc
gives_by v w false true p q e = absurd cc
gives_by v w false false p q e =
    let same : v ≡ w = cc in
    ap (λ b. if b then Gives v else Undefined) (and_from (nat_le (depth_of v) 32) (nat_le (size_of v) 1048576) (shallow 32 (depth_of v) p) (shallow 1048576 (size_of v) q)) ∙ ap Gives same

pub whole_gives : (v w : Tree) → IsFine v → Ok w ≡ made v → kept (Gives v) ≡ Gives w
whole_gives v w h e = gives_by v w (nat_lt 32 (depth_of v)) (nat_lt 1048576 (size_of v)) refl refl (e ∙ made_fine v h)

lost_by : (v : Tree) (why : ValueRefusal) (d s : Bool) → nat_lt 32 (depth_of v) ≡ d → nat_lt 1048576 (size_of v) ≡ s → Err why ≡ made_by true true d s v → kept (Gives v) ≡ Undefined
lost_by v why true s p q e = ap (λ b. if b && nat_le (size_of v) 1048576 then Gives v else Undefined) (deep 32 (depth_of v) p)
lost_by v why false true p q e =
    ap (λ b. if nat_le (depth_of v) 32 && b then Gives v else Undefined) (deep 1048576 (size_of v) q)
    ∙ ap (λ b. if b then Gives v else Undefined) (and_false (nat_le (depth_of v) 32))
lost_by v why false false p q e = absurd cc

pub whole_lost : (v : Tree) (why : ValueRefusal) → IsFine v → Err why ≡ made v → kept (Gives v) ≡ Undefined
whole_lost v why h e = lost_by v why (nat_lt 32 (depth_of v)) (nat_lt 1048576 (size_of v)) refl refl (e ∙ made_fine v h)

-- ---- an optional of it

higher : (m n : ℕ) → nat_le n m ≡ false → nat_le (n + 1) m ≡ false
higher m n h = grind (arith, h)

within_by : (a b c d : Bool) (v w : Tree) → (a ≡ false → c ≡ false) → (b ≡ false → d ≡ false) → (if a && b then Gives v else Undefined) ≡ Undefined → (if c && d then Gives w else Undefined) ≡ Undefined
within_by true true c d v w f g h = absurd cc
within_by true false c d v w f g h = ap (λ b. if c && b then Gives w else Undefined) (g refl) ∙ ap (λ b. if b then Gives w else Undefined) (and_false c)
within_by false b c d v w f g h = ap (λ a. if a && d then Gives w else Undefined) (f refl)

pub some_lost : (v : Tree) → kept (Gives v) ≡ Undefined → kept (Gives (SomeV v)) ≡ Undefined
some_lost v h =
    within_by (nat_le (depth_of v) 32) (nat_le (size_of v) 1048576) (nat_le (depth_of (SomeV v)) 32) (nat_le (size_of (SomeV v)) 1048576) v (SomeV v)
    (λ k. grind (arith, k)) (λ k. grind (arith, k)) h

kept_same : (b : Bool) (v w : Tree) → (if b then Gives v else Undefined) ≡ Gives w → v ≡ w
kept_same true v w h = cc
kept_same false v w h = absurd cc

pub kept_is : (v w : Tree) → kept (Gives v) ≡ Gives w → v ≡ w
kept_is v w h = kept_same (is_within v) v w h

-- ---- lists

items_set_ranges : (xs : List Tree) (i : ℕ) (v : Tree) → ItemsInRange (items_of xs) → IsVal v → ItemsInRange (items_of (slice_set xs i v))
items_set_ranges [] i v h k = h
items_set_ranges (x ∷ xs) zero v h k = (k.ranges, h.1)
items_set_ranges (x ∷ xs) (suc i) v h k = (h.0, items_set_ranges xs i v h.1 k)

items_set_keys : (xs : List Tree) (i : ℕ) (v : Tree) → items_have_rising_keys (items_of xs) ≡ true → IsVal v → items_have_rising_keys (items_of (slice_set xs i v)) ≡ true
items_set_keys [] i v h k = h
items_set_keys (x ∷ xs) zero v h k = and_from (has_rising_keys v) (items_have_rising_keys (items_of xs)) k.keys (and_parts (has_rising_keys x) (items_have_rising_keys (items_of xs)) h).1
items_set_keys (x ∷ xs) (suc i) v h k =
    let both = and_parts (has_rising_keys x) (items_have_rising_keys (items_of xs)) h in
    and_from (has_rising_keys x) (items_have_rising_keys (items_of (slice_set xs i v))) both.0 (items_set_keys xs i v both.1 k)

items_set_texts : (xs : List Tree) (i : ℕ) (v : Tree) → items_have_good_texts (items_of xs) ≡ true → IsVal v → items_have_good_texts (items_of (slice_set xs i v)) ≡ true
items_set_texts [] i v h k = h
items_set_texts (x ∷ xs) zero v h k = and_from (has_good_texts v) (items_have_good_texts (items_of xs)) k.texts (and_parts (has_good_texts x) (items_have_good_texts (items_of xs)) h).1
items_set_texts (x ∷ xs) (suc i) v h k =
    let both = and_parts (has_good_texts x) (items_have_good_texts (items_of xs)) h in
    and_from (has_good_texts x) (items_have_good_texts (items_of (slice_set xs i v))) both.0 (items_set_texts xs i v both.1 k)

items_set_depth : (xs : List Tree) (i : ℕ) (v : Tree) → items_depth (items_of xs) ≤ 32 → depth_of v ≤ 32 → items_depth (items_of (slice_set xs i v)) ≤ 32
items_set_depth [] i v h k = h
items_set_depth (x ∷ xs) zero v h k = omega (arith, h, k)
items_set_depth (x ∷ xs) (suc i) v h k =
    let rest : items_depth (items_of xs) ≤ 32 = omega (arith, h) in
    omega (arith, h, items_set_depth xs i v rest k)

-- the entry was set
set_by : {A : Type 0} (b : Bool) (i : ℕ) (x : A) (xs ys : List A) → Some ys ≡ (if b then Some (slice_set xs i x) else None) → ys ≡ slice_set xs i x
set_by true i x xs ys h = cc
set_by false i x xs ys h = absurd cc

pub was_set : {A : Type 0} (i : ℕ) (x : A) (xs ys : List A) → Some ys ≡ with_entry i x xs → ys ≡ slice_set xs i x
was_set i x xs ys h = set_by (nat_lt i (length xs)) i x xs ys h

pub list_set_fine : (xs ys : List Tree) (i : ℕ) (v : Tree) → IsVal (ListV (items_of xs)) → IsVal v → ys ≡ slice_set xs i v → IsFine (ListV (items_of ys))
list_set_fine xs ys i v h k e = rw e (record { ranges = items_set_ranges xs i v h.ranges k; keys = items_set_keys xs i v h.keys k; texts = items_set_texts xs i v h.texts k })

pub list_set_shallow : (xs ys : List Tree) (i : ℕ) (v : Tree) → IsVal (ListV (items_of xs)) → IsVal v → ys ≡ slice_set xs i v → depth_of (ListV (items_of ys)) ≤ 128
list_set_shallow xs ys i v h k e =
    let less : items_depth (items_of (slice_set xs i v)) ≤ 32 = items_set_depth xs i v (omega (arith, h.depth)) k.depth in
    rw e (omega (arith, less))

-- what the row gives of a list
pub list_set_is : (xs : List Tree) (i : ℕ) (v : Tree) (o : Option (List Tree)) → o ≡ with_entry i v xs → Gives (optional (option_map (λ ws. ListV (items_of ws)) (with_entry i v (values_of (items_of xs))))) ≡ Gives (optional (option_map (λ ws. ListV (items_of ws)) o))
list_set_is xs i v o e = ap (λ ws. Gives (optional (option_map (λ us. ListV (items_of us)) (with_entry i v ws)))) (values_of_items xs) ∙ ap (λ p. Gives (optional (option_map (λ us. ListV (items_of us)) p))) (sym e)

-- ---- buffers and strings

-- one entry was set, which is the row
pub data IsSet (i : ℕ) (row xs ys : List ℕ) : Type 0 where
  is_set : (x : ℕ) → row ≡ x ∷ [] → ys ≡ slice_set xs i x → IsSet i row xs ys

pub was_set_single : (i : ℕ) (row xs ys : List ℕ) → Some ys ≡ with_single i row xs → IsSet i row xs ys
was_set_single i [] xs ys h = absurd cc
was_set_single i (x ∷ []) xs ys h = is_set x refl (was_set i x xs ys h)
was_set_single i (x ∷ y ∷ row) xs ys h = absurd cc

texts_set : (xs : List ℕ) (i x : ℕ) → list_all is_text_byte xs ≡ true → is_text_byte x ≡ true → list_all is_text_byte (slice_set xs i x) ≡ true
texts_set [] i x h k = h
texts_set (y ∷ xs) zero x h k = and_from (is_text_byte x) (list_all is_text_byte xs) k (and_parts (is_text_byte y) (list_all is_text_byte xs) h).1
texts_set (y ∷ xs) (suc i) x h k =
    let both = and_parts (is_text_byte y) (list_all is_text_byte xs) h in
    and_from (is_text_byte y) (list_all is_text_byte (slice_set xs i x)) both.0 (texts_set xs i x both.1 k)

scalars_set : (xs : List ℕ) (i x : ℕ) → all_scalars xs ≡ true → all_scalars (x ∷ []) ≡ true → all_scalars (slice_set xs i x) ≡ true
scalars_set [] i x h k = h
scalars_set (y ∷ xs) zero x h k = grind (arith, h, k)
scalars_set (y ∷ xs) (suc i) x h k = grind (arith, scalars_set xs i x, h, k)

pub buff_set_fine : (xs ys row : List ℕ) (i : ℕ) → IsVal (BuffV xs) → IsVal (BuffV row) → Some ys ≡ with_single i row xs → IsFine (BuffV ys)
buff_set_fine xs ys row i h k e = by (was_set_single i row xs ys e)
  where
    by : IsSet i row xs ys → IsFine (BuffV ys)
    by (is_set x p q) =
        let one : All (λ b. b < 256) (x ∷ []) = subst (λ l. All (λ b. b < 256) l) p k.ranges in
        subst (λ l. IsFine (BuffV l)) (sym q) (record { ranges = All-set (λ b. b < 256) xs i x (one 0 x (omega arith)) h.ranges; keys = refl; texts = refl })

pub text_set_fine : (xs ys row : List ℕ) (i : ℕ) → IsVal (AsciiV xs) → IsVal (AsciiV row) → Some ys ≡ with_single i row xs → IsFine (AsciiV ys)
text_set_fine xs ys row i h k e = by (was_set_single i row xs ys e)
  where
    by : IsSet i row xs ys → IsFine (AsciiV ys)
    by (is_set x p q) =
        let one : All (λ b. b < 256) (x ∷ []) = subst (λ l. All (λ b. b < 256) l) p k.ranges in
        let good : list_all is_text_byte (x ∷ []) ≡ true = subst (λ l. list_all is_text_byte l ≡ true) p k.texts in
        subst (λ l. IsFine (AsciiV l)) (sym q) (record {
          ranges = All-set (λ b. b < 256) xs i x (one 0 x (omega arith)) h.ranges;
          keys = refl;
          texts = texts_set xs i x h.texts (and_parts (is_text_byte x) true good).0;
        })

pub characters_set_fine : (xs ys row : List ℕ) (i : ℕ) → IsVal (Utf8V xs) → IsVal (Utf8V row) → Some ys ≡ with_single i row xs → IsFine (Utf8V ys)
characters_set_fine xs ys row i h k e = by (was_set_single i row xs ys e)
  where
    by : IsSet i row xs ys → IsFine (Utf8V ys)
    by (is_set x p q) =
        subst (λ l. IsFine (Utf8V l)) (sym q) (record { ranges = scalars_set xs i x h.ranges (subst (λ l. all_scalars l ≡ true) p k.ranges); keys = refl; texts = refl })
