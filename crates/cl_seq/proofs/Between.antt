-- Parts of sequences between two places: what they are of single entries, and that they keep the limits.
use Rattle.std.proofs.Common.{◌≡◌, ℕ, zero, suc, ◌+◌, ◌-◌, ◌≤◌, ◌<◌, ◌&&◌, Bool, true, false, List, [], ◌∷◌, ◌++◌, length, take, drop, nat_le, if◌then◌else◌, option_map, Option, Some, None, refl, sym, ap, ◌∙◌, arith, length-append, encode_utf8, encode_utf8_all}
use Rattle.std.specs.Prelude.{slice_range}
use Rattle.std.specs.List.{list_all, All}
use Rattle.std.specs.Str.{all_scalars}
use Rattle.std.proofs.lemmas.Bool.{and_parts, and_from}
use Rattle.std.proofs.lemmas.List.Elements.{All-take, All-drop}
use Rattle.cl_values.specs.Tree.{Tree, BuffV, AsciiV, Utf8V, ListV, NoItem, items_of, items_depth}
use Rattle.cl_values.specs.Wire.{items_size}
use Rattle.cl_values.specs.Valid.{IsVal, AreVals, is_text_byte, has_rising_keys, has_good_texts, items_have_rising_keys, items_have_good_texts}
use Rattle.cl_values.specs.Sequences.{values_of, singles, joined, contents, like}
use Rattle.cl_values.specs.Contents.{between_places}
use Rattle.cl_values.proofs.Lists.{values_of_items}
use Rattle.cl_values.proofs.Parts.{list_part, first_part, rest_part}

-- ---- what stands between two places

pub none_between : {A : Type 0} (b : Bool) (l r : ℕ) (xs : List A) → b ≡ (nat_le l r && nat_le r (length xs)) → b ≡ false → None ≡ between_places l r xs
none_between b l r xs h k = ap (λ c. if c then Some (slice_range xs l r) else None) (sym k ∙ h)

pub some_between : {A : Type 0} (b : Bool) (l r : ℕ) (xs ys : List A) → b ≡ (nat_le l r && nat_le r (length xs)) → b ≡ true → ys ≡ take (r - l) (drop l xs) → Some ys ≡ between_places l r xs
some_between b l r xs ys h k e = ap Some e ∙ ap (λ c. if c then Some (slice_range xs l r) else None) (sym k ∙ h)

pub within_places : (b : Bool) (l r n : ℕ) → b ≡ (nat_le l r && nat_le r n) → b ≡ true → (l ≤ r) × (r ≤ n)
within_places b l r n h k =
    let both = and_parts (nat_le l r) (nat_le r n) (sym h ∙ k) in
    (le l r both.0, le r n both.1)
  where
    le : (m n : ℕ) → nat_le m n ≡ true → m ≤ n
    le m n h = grind (arith, h)

-- the part that is there is a part
there : {A : Type 0} (b : Bool) (l r : ℕ) (xs ys : List A) → Some ys ≡ (if b then Some (slice_range xs l r) else None) → ys ≡ slice_range xs l r
there true l r xs ys h = cc
there false l r xs ys h = absurd cc

pub is_part : {A : Type 0} (l r : ℕ) (xs ys : List A) → Some ys ≡ between_places l r xs → ys ≡ take (r - l) (drop l xs)
is_part l r xs ys h = there (nat_le l r && nat_le r (length xs)) l r xs ys h

module _ (make : List ℕ → Tree) where
  counted : (xs : List ℕ) → length (singles make xs) ≡ length xs
  counted [] = refl
  counted (x ∷ xs) = ap suc (counted xs)

  dropped : (n : ℕ) (xs : List ℕ) → drop n (singles make xs) ≡ singles make (drop n xs)
  dropped zero xs = refl
  dropped (suc n) [] = refl
  dropped (suc n) (x ∷ xs) = dropped n xs

  taken : (n : ℕ) (xs : List ℕ) → take n (singles make xs) ≡ singles make (take n xs)
  taken zero xs = refl
  taken (suc n) [] = refl
  taken (suc n) (x ∷ xs) = ap (λ l. make (x ∷ []) ∷ l) (taken n xs)

  mapped : (b : Bool) (l r : ℕ) (xs : List ℕ) → (if b then Some (slice_range (singles make xs) l r) else None) ≡ option_map (singles make) (if b then Some (slice_range xs l r) else None)
  mapped true l r xs = ap Some (ap (take (r - l)) (dropped l xs) ∙ taken (r - l) (drop l xs))
  mapped false l r xs = refl

  between_singles : (l r : ℕ) (xs : List ℕ) → between_places l r (singles make xs) ≡ option_map (singles make) (between_places l r xs)
  between_singles l r xs =
      ap (λ n. if nat_le l r && nat_le r n then Some (slice_range (singles make xs) l r) else None) (counted xs)
      ∙ mapped (nat_le l r && nat_le r (length xs)) l r xs

  joined_singles : ((x : ℕ) → contents (make (x ∷ [])) ≡ x ∷ []) → (xs : List ℕ) → joined (singles make xs) ≡ xs
  joined_singles h [] = refl
  joined_singles h (x ∷ xs) = ap (λ l. l ++ joined (singles make xs)) (h x) ∙ ap (λ l. x ∷ l) (joined_singles h xs)

  remade : (v : Tree) → ((ys : List Tree) → like v ys ≡ make (joined ys)) → ((x : ℕ) → contents (make (x ∷ [])) ≡ x ∷ []) → (o : Option (List ℕ)) → option_map (like v) (option_map (singles make) o) ≡ option_map make o
  remade v h k None = refl
  remade v h k (Some xs) = ap Some (h (singles make xs) ∙ ap make (joined_singles k xs))

  -- the part of a buffer or string
  pub single_part : (v : Tree) (l r : ℕ) (xs : List ℕ) (o : Option (List ℕ)) → ((ys : List Tree) → like v ys ≡ make (joined ys)) → ((x : ℕ) → contents (make (x ∷ [])) ≡ x ∷ []) → o ≡ between_places l r xs → option_map make o ≡ option_map (like v) (between_places l r (singles make xs))
  single_part v l r xs o h k e = ap (option_map make) e ∙ sym (ap (option_map (like v)) (between_singles l r xs) ∙ remade v h k (between_places l r xs))

-- the part of a list
pub list_part_is : (l r : ℕ) (xs : List Tree) (o : Option (List Tree)) → o ≡ between_places l r xs → option_map (λ ys. ListV (items_of ys)) o ≡ option_map (like (ListV (items_of xs))) (between_places l r (values_of (items_of xs)))
list_part_is l r xs o e = ap (option_map (λ ys. ListV (items_of ys))) (e ∙ ap (between_places l r) (sym (values_of_items xs)))

-- ---- the limits

less_take : {A : Type 0} (n : ℕ) (xs : List A) → length (take n xs) ≤ length xs
less_take zero xs = omega arith
less_take (suc n) [] = omega arith
less_take (suc n) (x ∷ xs) = omega (arith, less_take n xs)

less_drop : {A : Type 0} (n : ℕ) (xs : List A) → length (drop n xs) ≤ length xs
less_drop zero xs = omega arith
less_drop (suc n) [] = omega arith
less_drop (suc n) (x ∷ xs) = omega (arith, less_drop n xs)

all_take : (p : ℕ → Bool) (n : ℕ) (xs : List ℕ) → list_all p xs ≡ true → list_all p (take n xs) ≡ true
all_take p zero xs h = refl
all_take p (suc n) [] h = refl
all_take p (suc n) (x ∷ xs) h = let both = and_parts (p x) (list_all p xs) h in and_from (p x) (list_all p (take n xs)) both.0 (all_take p n xs both.1)

all_drop : (p : ℕ → Bool) (n : ℕ) (xs : List ℕ) → list_all p xs ≡ true → list_all p (drop n xs) ≡ true
all_drop p zero xs h = h
all_drop p (suc n) [] h = refl
all_drop p (suc n) (x ∷ xs) h = all_drop p n xs (and_parts (p x) (list_all p xs) h).1

pub buff_part : (l m : ℕ) (xs ys : List ℕ) → IsVal (BuffV xs) → ys ≡ take m (drop l xs) → IsVal (BuffV ys)
buff_part l m xs ys h e = rw e (record {
  ranges = All-take (λ b. b < 256) m (drop l xs) (All-drop (λ b. b < 256) l xs h.ranges);
  keys = refl;
  texts = refl;
  depth = omega arith;
  size = omega (arith, h.size, less_take m (drop l xs), less_drop l xs);
})

pub text_part : (l m : ℕ) (xs ys : List ℕ) → IsVal (AsciiV xs) → ys ≡ take m (drop l xs) → IsVal (AsciiV ys)
text_part l m xs ys h e = rw e (record {
  ranges = All-take (λ b. b < 256) m (drop l xs) (All-drop (λ b. b < 256) l xs h.ranges);
  keys = refl;
  texts = all_take is_text_byte m (drop l xs) (all_drop is_text_byte l xs h.texts);
  depth = omega arith;
  size = omega (arith, h.size, less_take m (drop l xs), less_drop l xs);
})

scalars_take : (n : ℕ) (xs : List ℕ) → all_scalars xs ≡ true → all_scalars (take n xs) ≡ true
scalars_take zero xs h = refl
scalars_take (suc n) [] h = refl
scalars_take (suc n) (x ∷ xs) h = grind (arith, scalars_take n xs, h)

scalars_drop : (n : ℕ) (xs : List ℕ) → all_scalars xs ≡ true → all_scalars (drop n xs) ≡ true
scalars_drop zero xs h = h
scalars_drop (suc n) [] h = refl
scalars_drop (suc n) (x ∷ xs) h = grind (arith, scalars_drop n xs, h)

encoded_take : (n : ℕ) (xs : List ℕ) → length (encode_utf8_all (take n xs)) ≤ length (encode_utf8_all xs)
encoded_take zero xs = omega arith
encoded_take (suc n) [] = omega arith
encoded_take (suc n) (x ∷ xs) = omega (arith, encoded_take n xs, length-append (encode_utf8 x) (encode_utf8_all (take n xs)), length-append (encode_utf8 x) (encode_utf8_all xs))

encoded_drop : (n : ℕ) (xs : List ℕ) → length (encode_utf8_all (drop n xs)) ≤ length (encode_utf8_all xs)
encoded_drop zero xs = omega arith
encoded_drop (suc n) [] = omega arith
encoded_drop (suc n) (x ∷ xs) = omega (arith, encoded_drop n xs, length-append (encode_utf8 x) (encode_utf8_all xs))

pub characters_part : (l m : ℕ) (xs ys : List ℕ) → IsVal (Utf8V xs) → ys ≡ take m (drop l xs) → IsVal (Utf8V ys)
characters_part l m xs ys h e = rw e (record {
  ranges = scalars_take m (drop l xs) (scalars_drop l xs h.ranges);
  keys = refl;
  texts = refl;
  depth = omega arith;
  size = omega (arith, h.size, encoded_take m (drop l xs), encoded_drop l xs);
})

no_vals : AreVals NoItem
no_vals = record { ranges = tt; keys = refl; texts = refl; depth = omega arith; size = omega arith }

vals_drop : (n : ℕ) (xs : List Tree) → AreVals (items_of xs) → AreVals (items_of (drop n xs))
vals_drop zero xs h = h
vals_drop (suc n) [] h = h
vals_drop (suc n) (x ∷ xs) h = vals_drop n xs (rest_part x (items_of xs) h)

depth_take : (n : ℕ) (xs : List Tree) → items_depth (items_of (take n xs)) ≤ items_depth (items_of xs)
depth_take zero xs = omega arith
depth_take (suc n) [] = omega arith
depth_take (suc n) (x ∷ xs) = omega (arith, depth_take n xs)

depth_drop : (n : ℕ) (xs : List Tree) → items_depth (items_of (drop n xs)) ≤ items_depth (items_of xs)
depth_drop zero xs = omega arith
depth_drop (suc n) [] = omega arith
depth_drop (suc n) (x ∷ xs) = omega (arith, depth_drop n xs)

size_take : (n : ℕ) (xs : List Tree) → items_size (items_of (take n xs)) ≤ items_size (items_of xs)
size_take zero xs = omega arith
size_take (suc n) [] = omega arith
size_take (suc n) (x ∷ xs) = omega (arith, size_take n xs)

size_drop : (n : ℕ) (xs : List Tree) → items_size (items_of (drop n xs)) ≤ items_size (items_of xs)
size_drop zero xs = omega arith
size_drop (suc n) [] = omega arith
size_drop (suc n) (x ∷ xs) = omega (arith, size_drop n xs)

vals_take : (n : ℕ) (xs : List Tree) → AreVals (items_of xs) → AreVals (items_of (take n xs))
vals_take zero xs h = no_vals
vals_take (suc n) [] h = h
vals_take (suc n) (x ∷ xs) h =
    let one = first_part x (items_of xs) h in
    let rest = vals_take n xs (rest_part x (items_of xs) h) in
    record {
      ranges = (one.ranges, rest.ranges);
      keys = and_from (has_rising_keys x) (items_have_rising_keys (items_of (take n xs))) one.keys rest.keys;
      texts = and_from (has_good_texts x) (items_have_good_texts (items_of (take n xs))) one.texts rest.texts;
      depth = omega (arith, h.depth, depth_take n xs);
      size = omega (arith, h.size, size_take n xs);
    }

pub list_part_fine : (l m : ℕ) (xs ys : List Tree) → IsVal (ListV (items_of xs)) → ys ≡ take m (drop l xs) → IsVal (ListV (items_of ys))
list_part_fine l m xs ys h e = rw e (by (vals_take m (drop l xs) (vals_drop l xs (list_part (items_of xs) h))))
  where
    by : AreVals (items_of (take m (drop l xs))) → IsVal (ListV (items_of (take m (drop l xs))))
    by k = record {
      ranges = k.ranges;
      keys = k.keys;
      texts = k.texts;
      depth = omega (arith, h.depth, depth_take m (drop l xs), depth_drop l xs);
      size = omega (arith, h.size, size_take m (drop l xs), size_drop l xs);
    }
