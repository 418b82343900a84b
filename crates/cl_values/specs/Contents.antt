-- The order of values by their content, the wire form as a value, and parts of sequences by their places.
use Rattle.std.specs.Prelude.{ℕ, ◌&&◌, Bool, List, [], ◌∷◌, nat_le, nat_lt, length, slice_range, slice_set, if◌then◌else◌, option_map, Option, Some, None, encode_utf8_all}
use Rattle.std.specs.declared.cmp.Ordering.{Ordering}
use Rattle.std.specs.Ordering.{nat_cmp, int_cmp, is_lt, is_le, is_gt, is_ge}
use Rattle.std.specs.Cmp.Lexicographic.{slice_cmp}
use Rattle.cl_values.specs.Tree.{Tree, IntV, UintV, BoolV, BuffV, AsciiV, Utf8V, ListV, SomeV, items_of}
use Rattle.cl_values.specs.Wire.{wire}
use Rattle.cl_values.specs.Computed.{Computed, Gives, Undefined}
use Rattle.cl_values.specs.Sequences.{values_of, entries_of, like, optional, on_entries}

-- ---- order

-- two rows of bytes: the first two that differ decide, and a proper prefix is less
abbrev pub bytes_order : List ℕ → List ℕ → Ordering
bytes_order xs ys = slice_cmp nat_cmp xs ys

-- two numbers, two buffers or two strings of one kind; a string of characters by its bytes in UTF-8
abbrev pub content_order : Tree → Tree → Option Ordering
content_order (IntV x) (IntV y) = Some (int_cmp x y)
content_order (UintV m) (UintV n) = Some (nat_cmp m n)
content_order (BuffV xs) (BuffV ys) = Some (bytes_order xs ys)
content_order (AsciiV xs) (AsciiV ys) = Some (bytes_order xs ys)
content_order (Utf8V cs) (Utf8V ds) = Some (bytes_order (encode_utf8_all cs) (encode_utf8_all ds))
content_order v w = None

abbrev pub told_by : (Ordering → Bool) → Option Ordering → Computed
told_by test None = Undefined
told_by test (Some order) = Gives (BoolV (test order))

-- whether two values stand so to each other
abbrev pub ordered : (Ordering → Bool) → List Tree → Computed
ordered test (v ∷ w ∷ []) = told_by test (content_order v w)
ordered test vs = Undefined

abbrev pub comes_before : List Tree → Computed
comes_before vs = ordered is_lt vs

abbrev pub comes_no_later : List Tree → Computed
comes_no_later vs = ordered is_le vs

abbrev pub comes_after : List Tree → Computed
comes_after vs = ordered is_gt vs

abbrev pub comes_no_earlier : List Tree → Computed
comes_no_earlier vs = ordered is_ge vs

-- ---- parts of sequences

-- The entries from the left place up to, without, the right place; none where the right place is above the length or below
-- the left place.
abbrev pub between_places : {A : Type 0} → ℕ → ℕ → List A → Option (List A)
between_places left right xs = if nat_le left right && nat_le right (length xs) then Some (slice_range xs left right) else None

-- these entries as a sequence of the same kind
abbrev pub slice : List Tree → Computed
slice (v ∷ UintV left ∷ UintV right ∷ []) = on_entries (λ xs. Gives (optional (option_map (like v) (between_places left right xs)))) (entries_of v)
slice vs = Undefined

-- another entry at a place, if there is one there
abbrev pub with_entry : {A : Type 0} → ℕ → A → List A → Option (List A)
with_entry place x xs = if nat_lt place (length xs) then Some (slice_set xs place x) else None

-- the one byte or character of a row at a place; none where the row isn't one long
abbrev pub with_single : ℕ → List ℕ → List ℕ → Option (List ℕ)
with_single place (x ∷ []) xs = with_entry place x xs
with_single place row xs = None

-- a sequence with the item in place of the entry at a place; the item of a buffer or string is one of its kind
abbrev pub replace_at : List Tree → Computed
replace_at (ListV vs ∷ UintV place ∷ item ∷ []) = Gives (optional (option_map (λ ws. ListV (items_of ws)) (with_entry place item (values_of vs))))
replace_at (BuffV xs ∷ UintV place ∷ BuffV ys ∷ []) = Gives (optional (option_map BuffV (with_single place ys xs)))
replace_at (AsciiV xs ∷ UintV place ∷ AsciiV ys ∷ []) = Gives (optional (option_map AsciiV (with_single place ys xs)))
replace_at (Utf8V cs ∷ UintV place ∷ Utf8V ds ∷ []) = Gives (optional (option_map Utf8V (with_single place ds cs)))
replace_at vs = Undefined

-- ---- the wire form

-- the bytes that spell a value; it is always there
abbrev pub consensus_bytes : List Tree → Computed
consensus_bytes (v ∷ []) = Gives (SomeV (BuffV (wire v)))
consensus_bytes vs = Undefined
