-- Where `slice?` and `replace-at?` are defined at a sequence and places.
use Rattle.std.specs.Prelude.{ℕ, Bool, [], ◌∷◌}
use Rattle.cl_values.specs.Tree.{Tree, UintV}
use Rattle.cl_values.specs.Computed.{is_defined, kept}
use Rattle.cl_values.specs.Contents.{slice, replace_at}

abbrev pub is_slice_defined : Tree → ℕ → ℕ → Bool
is_slice_defined v left right = is_defined (kept (slice (v ∷ UintV left ∷ UintV right ∷ [])))

abbrev pub is_replacement_defined : Tree → ℕ → Tree → Bool
is_replacement_defined v at item = is_defined (kept (replace_at (v ∷ UintV at ∷ item ∷ [])))
