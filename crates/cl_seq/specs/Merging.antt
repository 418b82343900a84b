-- Entries put into a sorted map, those of one row after those of another.
use Rattle.std.specs.Prelude.{ℕ, ◌&&◌, not, Bool, true, List, [], ◌∷◌, if◌then◌else◌}
use Rattle.std.specs.Option.{is_some}
use Rattle.std.specs.Ordering.{nat_cmp}
use Rattle.std.specs.Cmp.Lexicographic.{slice_cmp}
use Rattle.std.specs.Map.{lookup}
use Rattle.std.specs.BTreeMap.{insert_entry, is_at}
use Rattle.cl_values.specs.Tree.{Tree, entries_of}
use Rattle.cl_values.specs.Tuples.{is_among}

-- the entries of a map, with one more where its key isn't there yet
abbrev pub with_entry : List (List ℕ × Tree) → List ℕ → Tree → List (List ℕ × Tree)
with_entry m k v = if is_some (lookup (is_at (slice_cmp nat_cmp k)) m) then m else insert_entry (slice_cmp nat_cmp) m k v

-- the entries of a map, with those parts whose keys aren't there yet, from the last on
abbrev pub with_parts : List (List ℕ × Tree) → List (List ℕ × Tree) → List (List ℕ × Tree)
with_parts m [] = m
with_parts m (p ∷ ps) = with_entry (with_parts m ps) p.0 p.1

-- no key stands twice
abbrev pub are_apart : List (List ℕ × Tree) → Bool
are_apart [] = true
are_apart (p ∷ ps) = not (is_among p.0 (entries_of ps)) && are_apart ps
