-- The entries of sequences, place by place.
use Rattle.std.specs.Prelude.{ℕ, List, [], ◌∷◌, length, map, drop, slice_get, Option, Some, None, option_map}
use Rattle.cl_values.specs.Tree.{Tree as Val}
use Rattle.cl_values.specs.Sequences.{entries_of}
use Rattle.cl_meaning.specs.Sequences.{side_by_side, all_entries}

-- ---- one sequence

abbrev pub list_in : Option (List Val) → List Val
list_in None = []
list_in (Some xs) = xs

-- the entries from a place on
abbrev pub entries_from : ℕ → Val → List Val
entries_from place v = drop place (list_in (entries_of v))

-- an entry that may be there
abbrev pub entry_in : Option (Option Val) → Option Val
entry_in None = None
entry_in (Some x) = x

-- ---- sequences side by side

-- an entry before those of other sequences, where each has one
abbrev pub and_entry : Option Val → Option (List Val) → Option (List Val)
and_entry (Some x) (Some r) = Some (x ∷ r)
and_entry o r = None

-- the entries at a place, where each value is a sequence that has one there
abbrev pub row_at : ℕ → List Val → Option (List Val)
row_at place [] = Some []
row_at place (v ∷ vs) = and_entry (entry_in (option_map (λ xs. slice_get xs place) (entries_of v))) (row_at place vs)

-- the length of the first
abbrev pub width_of : Option (List (List Val)) → Option ℕ
width_of None = None
width_of (Some []) = None
width_of (Some (xs ∷ rows)) = Some (length xs)

abbrev pub beside_first : List (List Val) → List (List Val)
beside_first [] = []
beside_first (xs ∷ rows) = side_by_side xs rows

abbrev pub rows_in : Option (List (List Val)) → List (List Val)
rows_in None = []
rows_in (Some rows) = rows

-- the rows from a place on
abbrev pub rows_from : ℕ → List Val → List (List Val)
rows_from place vs = beside_first (map (drop place) (rows_in (all_entries vs)))
