-- The name of each native, and the native of a name in a version.
use Rattle.std.specs.Prelude.{ℕ, Bool, List, Option, Some, None}
use Rattle.cl_forms.specs.Heads.{Version, is_had, Head, Row, row_of, native}

abbrev pub name_of : Head → List ℕ
name_of head = (row_of head).name

abbrev pub head_of_row : Option Row → Option Head
head_of_row None = None
head_of_row (Some row) = Some row.head

-- the native of this name in a version
abbrev pub head_of : Version → List ℕ → Option Head
head_of version name = head_of_row (native version name)

-- whether a version has this native
abbrev pub has_head : Version → Head → Bool
has_head version head = is_had version (row_of head).only
