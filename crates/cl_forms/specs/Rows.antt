-- Words and natives in rows.
use Rattle.std.specs.Prelude.{ℕ, List, [], Option, Some, None, slice_get}

abbrev pub words_of : {R A : Type 0} → (R → List A) → Option R → List A
words_of words None = []
words_of words (Some row) = words row

-- the words of the row at a place, none where there is no row
unfoldable pub row_at : {R A : Type 0} → List R → (R → List A) → ℕ → List A
row_at rows words n = words_of words (slice_get rows n)
