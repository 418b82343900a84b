-- The rows of natives on lists, buffers and strings.
use Rattle.std.proofs.Common.{◌≡◌, ℕ, zero, suc, ◌+◌, ◌<◌, ◌≤◌, Bool, true, false, ◌&&◌, List, [], ◌∷◌, ◌++◌, length, Option, Some, None, refl, ap, ◌∙◌, arith, length-append}
use Rattle.std.specs.Prelude.{slice_get, option_map, if◌then◌else◌}
use Rattle.std.specs.List.{list_all}
use Rattle.std.proofs.lemmas.Bool.{and_parts, and_from}
use Rattle.std.proofs.lemmas.List.Elements.{All-append}
use Rattle.std.proofs.lemmas.List.Folds.{list_all-append}
use Rattle.cl_types.specs.Types.{PlainType, NoType, UintType, BuffType, AsciiType, Utf8Type, ListType, OptionalType, admits}
use Rattle.cl_types.specs.TypeKinds.{is_uint, is_sequence, entry_of}
use Rattle.cl_types.proofs.OfKind.{uint_type}
use Rattle.cl_values.specs.Tree.{Tree, UintV, BuffV, AsciiV, Utf8V, ListV, items_of}
use Rattle.cl_values.specs.Valid.{is_text_byte}
use Rattle.cl_values.specs.Wire.{size_of}
use Rattle.cl_values.specs.Computed.{Gives}
use Rattle.cl_values.specs.Sequences.{values_of, optional, place_of, equal, length_of as value_length, element_at, index_of, append, concat}
use Rattle.cl_values.proofs.ByType.{uint_value}
use Rattle.cl_values.proofs.OfTypes.{IsIn, AreIn, AllIn, raised, all_raised}
use Rattle.cl_values.proofs.Entries.{list_in, list_of, all_append, buff_in, ascii_in, utf8_in, scalars_both, buff_of, ascii_of, utf8_of, on_entries_in, few}
use Rattle.cl_rules.specs.NativeTypes.{of_kind, made, list_row, append_row, concat_row, element_row, index_row}
use Rattle.cl_native_sound.proofs.Coming.{ComesTo}
use Rattle.cl_native_sound.proofs.Rulings.{IsClean, kind_holds, if_kind_holds}
use Rattle.cl_native_sound.proofs.Supertypes.{each_raised, lubbed_clean, lubs_clean}
use Rattle.cl_native_sound.proofs.ValueRows.{some_in, none_in}

uint_in : (n : ℕ) → n ≤ 1048576 → IsIn (UintV n) UintType
uint_in n h = record { ranges = omega (arith, h); keys = refl; texts = refl; typed = refl }

pub len_in : (t : PlainType) (v : Tree) → size_of v ≤ 1048576 → IsIn v t → IsClean (of_kind (is_sequence t) UintType) → ComesTo false false UintType (value_length (v ∷ []))
len_in t v s i c =
    on_entries_in (ComesTo false false UintType) (λ xs. Gives (UintV (length xs))) v t i (kind_holds (is_sequence t) UintType c)
    (λ xs e is l. uint_in (length xs) (omega (arith, s, few v xs e)))

entry_at : (xs : List Tree) (n : ℕ) (t : PlainType) → AllIn xs t → IsIn (optional (slice_get xs n)) (OptionalType t)
entry_at [] n t is = none_in t
entry_at (x ∷ xs) zero t is = some_in t x is.0
entry_at (x ∷ xs) (suc n) t is = entry_at xs n t is.1

pub element_in : (t u : PlainType) (v w : Tree) → IsIn v t → IsIn w u → IsClean (element_row t u) → ComesTo false false (OptionalType (entry_of t)) (element_at (v ∷ w ∷ []))
element_in t u v w i j c =
    let both = and_parts (is_sequence t) (is_uint u) (if_kind_holds (is_sequence t && is_uint u) (made (OptionalType (entry_of t))) c) in
    uint_type (λ u. IsIn w u → ComesTo false false (OptionalType (entry_of t)) (element_at (v ∷ w ∷ []))) u both.1
    (λ j. uint_value (λ w. ComesTo false false (OptionalType (entry_of t)) (element_at (v ∷ w ∷ []))) w j.typed
    (λ n. on_entries_in (ComesTo false false (OptionalType (entry_of t))) (λ xs. Gives (optional (slice_get xs n))) v t i both.0 (λ xs e is l. entry_at xs n (entry_of t) is))) j

-- a place is below the number of entries
abbrev IsBelow : ℕ → Option ℕ → Type 0
IsBelow n None = Unit {0}
IsBelow n (Some k) = k < n

place_below : (item : Tree) (xs : List Tree) → IsBelow (length xs) (place_of item xs)
place_below item [] = tt
place_below item (x ∷ xs) = by (equal x item) (place_of item xs) (place_below item xs)
  where
    by : (b : Bool) (o : Option ℕ) → IsBelow (length xs) o → IsBelow (suc (length xs)) (if b then Some 0 else option_map suc o)
    by true o h = omega arith
    by false None h = tt
    by false (Some k) h = omega (arith, h)

place_in : (n : ℕ) (o : Option ℕ) → n ≤ 1048576 → IsBelow n o → IsIn (optional (option_map UintV o)) (OptionalType UintType)
place_in n None l h = none_in UintType
place_in n (Some k) l h = some_in UintType (UintV k) (uint_in k (omega (arith, l, h)))

pub index_in : (t u : PlainType) (v w : Tree) → size_of v ≤ 1048576 → IsIn v t → IsClean (index_row t u) → ComesTo false false (OptionalType UintType) (index_of (v ∷ w ∷ []))
index_in t u v w s i c =
    let both = and_parts (is_sequence t) (admits (entry_of t) u) (kind_holds (is_sequence t && admits (entry_of t) u) (OptionalType UintType) c) in
    on_entries_in (ComesTo false false (OptionalType UintType)) (λ xs. Gives (optional (option_map UintV (place_of w xs)))) v t i both.0
    (λ xs e is l. place_in (length xs) (place_of w xs) (omega (arith, s, few v xs e)) (place_below w xs))

pub made_list_in : (ts : List PlainType) (vs : List Tree) → AreIn vs ts → IsClean (list_row ts) → ComesTo false false (list_row ts).type (Gives (ListV (items_of vs)))
made_list_in ts vs is c =
    lubs_clean (λ r. ComesTo false false r.type (Gives (ListV (items_of vs)))) NoType ts (λ d. made (ListType (length ts) d)) c
    (λ d dn ds k. list_in vs (length ts) d (each_raised vs ts d is ds) (omega (arith, as_many vs ts is)))
  where
    as_many : (vs : List Tree) (ts : List PlainType) → AreIn vs ts → length vs ≡ length ts
    as_many [] [] is = refl
    as_many (v ∷ vs) (t ∷ ts) is = ap suc (as_many vs ts is.1)
    as_many [] (t ∷ ts) is = absurd is
    as_many (v ∷ vs) [] is = absurd is

pub append_in : (t u : PlainType) (v w : Tree) → IsIn v t → IsIn w u → IsClean (append_row t u) → ComesTo false false (append_row t u).type (append (v ∷ w ∷ []))
append_in (ListType n t) u v w i j c =
    lubbed_clean (λ r. ComesTo false false r.type (append (v ∷ w ∷ []))) t u (λ d. made (ListType (n + 1) d)) c
    (λ d dt du k. list_of (λ v. ComesTo false false (ListType (n + 1) d) (append (v ∷ w ∷ []))) v n t i
    (λ vs h. list_in (values_of vs ++ w ∷ []) (n + 1) d (all_append (values_of vs) (w ∷ []) d (all_raised (values_of vs) d t dt h.each) (raised w d u du j, tt)) (omega (arith, h.many, length-append (values_of vs) (w ∷ [])))))
append_in t u v w i j c = absurd cc

pub concat_in : (t u : PlainType) (v w : Tree) → IsIn v t → IsIn w u → IsClean (concat_row t u) → ComesTo false false (concat_row t u).type (concat (v ∷ w ∷ []))
concat_in (ListType m t) (ListType n u) v w i j c =
    lubbed_clean (λ r. ComesTo false false r.type (concat (v ∷ w ∷ []))) t u (λ d. made (ListType (m + n) d)) c
    (λ d dt du k. list_of (λ v. ComesTo false false (ListType (m + n) d) (concat (v ∷ w ∷ []))) v m t i
    (λ vs h. list_of (λ w. ComesTo false false (ListType (m + n) d) (concat (ListV vs ∷ w ∷ []))) w n u j
    (λ ws g. list_in (values_of vs ++ values_of ws) (m + n) d (all_append (values_of vs) (values_of ws) d (all_raised (values_of vs) d t dt h.each) (all_raised (values_of ws) d u du g.each)) (omega (arith, h.many, g.many, length-append (values_of vs) (values_of ws))))))
concat_in (BuffType m) (BuffType n) v w i j c =
    buff_of (λ v. ComesTo false false (BuffType (m + n)) (concat (v ∷ w ∷ []))) v m i
    (λ xs h l. buff_of (λ w. ComesTo false false (BuffType (m + n)) (concat (BuffV xs ∷ w ∷ []))) w n j
    (λ ys g k. buff_in (xs ++ ys) (m + n) (All-append (λ b. b < 256) xs ys h g) (omega (arith, l, k, length-append xs ys))))
concat_in (AsciiType m) (AsciiType n) v w i j c =
    ascii_of (λ v. ComesTo false false (AsciiType (m + n)) (concat (v ∷ w ∷ []))) v m i
    (λ xs h p l. ascii_of (λ w. ComesTo false false (AsciiType (m + n)) (concat (AsciiV xs ∷ w ∷ []))) w n j
    (λ ys g q k. ascii_in (xs ++ ys) (m + n) (All-append (λ b. b < 256) xs ys h g) (list_all-append is_text_byte xs ys ∙ and_from (list_all is_text_byte xs) (list_all is_text_byte ys) p q) (omega (arith, l, k, length-append xs ys))))
concat_in (Utf8Type m) (Utf8Type n) v w i j c =
    utf8_of (λ v. ComesTo false false (Utf8Type (m + n)) (concat (v ∷ w ∷ []))) v m i
    (λ xs h l. utf8_of (λ w. ComesTo false false (Utf8Type (m + n)) (concat (Utf8V xs ∷ w ∷ []))) w n j
    (λ ys g k. utf8_in (xs ++ ys) (m + n) (scalars_both xs ys h g) (omega (arith, l, k, length-append xs ys))))
concat_in t u v w i j c = absurd cc
