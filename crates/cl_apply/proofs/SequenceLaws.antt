-- Where a part of a sequence, or a sequence with one entry replaced, is within the limits as an optional.
use Rattle.std.proofs.Common.{◌≡◌, ℕ, ◌+◌, ◌≤◌, ◌<◌, ◌&&◌, min, max, nat_le, nat_lt, take, drop, get_or, slice_set, Bool, true, false, List, [], ◌∷◌, ◌++◌, length, length-append, add-one, Option, Some, None, option_map, encode_utf8, encode_utf8_all, refl, ap, sym, ◌∙◌, arith, if◌then◌else◌}
use Rattle.std.proofs.lemmas.Bool.Decides.{nat_tests}
use Rattle.std.proofs.lemmas.List.{set_split, take-append-drop}
use Rattle.cl_values.specs.Tree.{Tree, UintV, BuffV, AsciiV, Utf8V, ListV, SomeV, Items, items_of, depth_of, items_depth}
use Rattle.cl_values.specs.Wire.{size_of, items_size}
use Rattle.cl_values.specs.Computed.{Gives, is_within, is_defined, kept}
use Rattle.cl_values.specs.Sequences.{optional}
use Rattle.cl_values.specs.Contents.{between_places, with_entry, slice, replace_at}
use Rattle.cl_values.proofs.Lists.{values_of_items, next_part}
use Rattle.cl_seq.proofs.Between.{list_part_is, single_part}
use Rattle.cl_seq.proofs.Entries.{joined_size, joined_depth}
use Rattle.cl_seq.proofs.Characters.{characters_size}
use Rattle.cl_apply.proofs.DefinedLaws.{gives_is}

-- ---- a sequence as an optional

list_by : (depth size : ℕ) → (nat_le depth 30 && nat_le (size + 6) 1048576) ≡ (nat_le (depth + 1 + 1) 32 && nat_le (1 + (5 + size)) 1048576)
list_by depth size =
    let deep : nat_le depth 30 ≡ nat_le (depth + 1 + 1) 32 = grind (arith, nat_tests) in
    let long : nat_le (size + 6) 1048576 ≡ nat_le (1 + (5 + size)) 1048576 = grind (arith, nat_tests) in
    λ i. deep i && long i

list_within : (vs : Items) → (nat_le (items_depth vs) 30 && nat_le (items_size vs + 6) 1048576) ≡ is_within (SomeV (ListV vs))
list_within vs = list_by (items_depth vs) (items_size vs)

pub shallow_list : (vs : Items) (size : ℕ) → nat_le (items_depth vs) 30 ≡ true → size ≡ items_size vs + 6 → nat_le size 1048576 ≡ is_within (SomeV (ListV vs))
shallow_list vs size d s = ap (λ n. nat_le n 1048576) s ∙ ap (λ b. b && nat_le (items_size vs + 6) 1048576) (sym d) ∙ list_within vs

pub deep_list : (vs : Items) → nat_le (items_depth vs) 30 ≡ false → false ≡ is_within (SomeV (ListV vs))
deep_list vs d = ap (λ b. b && nat_le (items_size vs + 6) 1048576) (sym d) ∙ list_within vs

bytes_by : (n : ℕ) → nat_le n 1048570 ≡ nat_le (1 + (5 + n)) 1048576
bytes_by n = grind (arith, nat_tests)

characters_by : (n size : ℕ) → size ≡ min (5 + n) 1048577 → nat_lt size 1048576 ≡ nat_le (1 + (5 + n)) 1048576
characters_by n size e = grind (arith, nat_tests, e)

-- ---- parts

-- whether what may be there is kept as an optional
abbrev is_kept : Option Tree → Bool
is_kept o = is_defined (kept (Gives (optional o)))

module _ (left right : ℕ) where
  pub list_part : (xs ys : List Tree) → Some ys ≡ between_places left right xs → is_within (SomeV (ListV (items_of ys))) ≡ is_defined (kept (slice (ListV (items_of xs) ∷ UintV left ∷ UintV right ∷ [])))
  list_part xs ys e = sym (gives_is (SomeV (ListV (items_of ys)))) ∙ ap is_kept (list_part_is left right xs (Some ys) e)

  pub no_list_part : (xs : List Tree) → None ≡ between_places left right xs → true ≡ is_defined (kept (slice (ListV (items_of xs) ∷ UintV left ∷ UintV right ∷ [])))
  no_list_part xs e = ap is_kept (list_part_is left right xs None e)

  pub buff_part : (xs ys : List ℕ) → Some ys ≡ between_places left right xs → nat_le (length ys) 1048570 ≡ is_defined (kept (slice (BuffV xs ∷ UintV left ∷ UintV right ∷ [])))
  buff_part xs ys e = bytes_by (length ys) ∙ sym (gives_is (SomeV (BuffV ys))) ∙ ap is_kept (single_part BuffV (BuffV xs) left right xs (Some ys) (λ zs. refl) (λ x. refl) e)

  pub no_buff_part : (xs : List ℕ) → None ≡ between_places left right xs → true ≡ is_defined (kept (slice (BuffV xs ∷ UintV left ∷ UintV right ∷ [])))
  no_buff_part xs e = ap is_kept (single_part BuffV (BuffV xs) left right xs None (λ zs. refl) (λ x. refl) e)

  pub text_part : (xs ys : List ℕ) → Some ys ≡ between_places left right xs → nat_le (length ys) 1048570 ≡ is_defined (kept (slice (AsciiV xs ∷ UintV left ∷ UintV right ∷ [])))
  text_part xs ys e = bytes_by (length ys) ∙ sym (gives_is (SomeV (AsciiV ys))) ∙ ap is_kept (single_part AsciiV (AsciiV xs) left right xs (Some ys) (λ zs. refl) (λ x. refl) e)

  pub no_text_part : (xs : List ℕ) → None ≡ between_places left right xs → true ≡ is_defined (kept (slice (AsciiV xs ∷ UintV left ∷ UintV right ∷ [])))
  no_text_part xs e = ap is_kept (single_part AsciiV (AsciiV xs) left right xs None (λ zs. refl) (λ x. refl) e)

  pub characters_part : (xs ys : List ℕ) (size : ℕ) → size ≡ min (size_of (Utf8V ys)) 1048577 → Some ys ≡ between_places left right xs → nat_lt size 1048576 ≡ is_defined (kept (slice (Utf8V xs ∷ UintV left ∷ UintV right ∷ [])))
  characters_part xs ys size s e =
      characters_by (length (encode_utf8_all ys)) size s ∙ sym (gives_is (SomeV (Utf8V ys))) ∙ ap is_kept (single_part Utf8V (Utf8V xs) left right xs (Some ys) (λ zs. refl) (λ x. refl) e)

  pub no_characters_part : (xs : List ℕ) → None ≡ between_places left right xs → true ≡ is_defined (kept (slice (Utf8V xs ∷ UintV left ∷ UintV right ∷ [])))
  no_characters_part xs e = ap is_kept (single_part Utf8V (Utf8V xs) left right xs None (λ zs. refl) (λ x. refl) e)

-- ---- one entry of a list replaced

entry_there : {A : Type 0} (i : ℕ) (x : A) (xs : List A) → i < length xs → Some (slice_set xs i x) ≡ with_entry i x xs
entry_there i x xs h =
    let there : nat_lt i (length xs) ≡ true = grind (arith, nat_tests, h) in
    ap (λ b. if b then Some (slice_set xs i x) else None) (sym there)

no_entry : {A : Type 0} (i : ℕ) (x : A) (xs : List A) → length xs ≤ i → None ≡ with_entry i x xs
no_entry i x xs h =
    let past : nat_lt i (length xs) ≡ false = grind (arith, nat_tests, h) in
    ap (λ b. if b then Some (slice_set xs i x) else None) (sym past)

pub item_replaced : (i : ℕ) (v : Tree) (xs : List Tree) → i < length xs → is_within (SomeV (ListV (items_of (take i xs ++ v ∷ drop (i + 1) xs)))) ≡ is_defined (kept (replace_at (ListV (items_of xs) ∷ UintV i ∷ v ∷ [])))
item_replaced i v xs h =
    let split : slice_set xs i v ≡ take i xs ++ v ∷ drop (i + 1) xs = rw add-one (set_split xs i v h) in
    sym (gives_is (SomeV (ListV (items_of (take i xs ++ v ∷ drop (i + 1) xs)))))
    ∙ ap (λ (ys : List Tree). is_kept (Some (ListV (items_of ys)))) (sym split)
    ∙ ap (λ (o : Option (List Tree)). is_kept (option_map (λ ws. ListV (items_of ws)) o)) (entry_there i v xs h ∙ ap (with_entry i v) (sym (values_of_items xs)))

pub no_item_replaced : (i : ℕ) (v : Tree) (xs : List Tree) → length xs ≤ i → true ≡ is_defined (kept (replace_at (ListV (items_of xs) ∷ UintV i ∷ v ∷ [])))
no_item_replaced i v xs h = ap (λ (o : Option (List Tree)). is_kept (option_map (λ ws. ListV (items_of ws)) o)) (no_entry i v xs h ∙ ap (with_entry i v) (sym (values_of_items xs)))

-- a list with a value between others
pub around_depth : (xs ys : List Tree) (v : Tree) → items_depth (items_of (xs ++ v ∷ ys)) ≡ max (items_depth (items_of xs)) (max (depth_of v) (items_depth (items_of ys)))
around_depth xs ys v = let k = joined_depth xs (v ∷ ys) (xs ++ v ∷ ys) refl in omega (arith, k)

pub shallow_around : (xs ys : List Tree) (v : Tree) → true ≡ nat_le (items_depth (items_of xs)) 30 → depth_of v ≤ 30 → nat_le (items_depth (items_of ys)) 30 ≡ nat_le (items_depth (items_of (xs ++ v ∷ ys))) 30
shallow_around xs ys v h k = let d = around_depth xs ys v in grind (arith, nat_tests, d, h, k)

pub around_size : (xs ys : List Tree) (v : Tree) → items_size (items_of (xs ++ v ∷ ys)) ≡ items_size (items_of xs) + size_of v + items_size (items_of ys)
around_size xs ys v = let k = joined_size xs (v ∷ ys) (xs ++ v ∷ ys) refl in omega (arith, k)

pub part_sizes : (i : ℕ) (xs : List Tree) → items_size (items_of (take i xs)) + items_size (items_of (drop i xs)) ≡ items_size (items_of xs)
part_sizes i xs = let k = joined_size (take i xs) (drop i xs) xs (sym (take-append-drop i xs)) in omega (arith, k)

-- ---- one character replaced, which takes one to four bytes

character_set : (xs : List ℕ) (i x y : ℕ) → i < length xs → x ≡ get_or xs i x → size_of (Utf8V (slice_set xs i y)) + length (encode_utf8 x) ≡ size_of (Utf8V xs) + length (encode_utf8 y)
character_set xs i x y h e =
    let before : List ℕ = take i xs in
    let after : List ℕ = drop (i + 1) xs in
    let old : xs ≡ before ++ x ∷ after = sym (ap (λ l. before ++ l) (sym (next_part xs i x h e)) ∙ take-append-drop i xs) in
    let new : slice_set xs i y ≡ before ++ y ∷ after = rw add-one (set_split xs i y h) in
    omega (arith, characters_size before (x ∷ after) xs old, characters_size before (y ∷ after) (slice_set xs i y) new, length-append (encode_utf8 x) (encode_utf8_all after), length-append (encode_utf8 y) (encode_utf8_all after))

set_by : (long set old new size : ℕ) → set + old ≡ long + new → size ≡ min long 1048577 → long ≤ 1048576 → nat_lt (size + new) (1048576 + old) ≡ nat_le (1 + set) 1048576
set_by long set old new size e s h = grind (arith, nat_tests, e, s, h)

pub character_fits : (xs : List ℕ) (i x y size old new : ℕ) → i < length xs → x ≡ get_or xs i x → size ≡ min (size_of (Utf8V xs)) 1048577 → size_of (Utf8V xs) ≤ 1048576
    → old ≡ length (encode_utf8 x) → new ≡ length (encode_utf8 y) → nat_lt (size + new) (1048576 + old) ≡ is_within (SomeV (Utf8V (slice_set xs i y)))
character_fits xs i x y size old new h e s k o n =
    (λ j. nat_lt (size + n j) (1048576 + o j))
    ∙ set_by (size_of (Utf8V xs)) (size_of (Utf8V (slice_set xs i y))) (length (encode_utf8 x)) (length (encode_utf8 y)) size (character_set xs i x y h e) s k
