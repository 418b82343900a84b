-- What may be there of the entries of a value.
use Rattle.std.specs.Prelude.{Option, Some, None}
use Rattle.cl_values.specs.Tree.{Tree}
use Rattle.cl_values.specs.Computed.{Computed, Gives, Undefined}
use Rattle.cl_values.specs.Sequences.{optional}

-- an entry as an optional value, where the value has entries
abbrev pub as_optional : Option (Option Tree) → Computed
as_optional None = Undefined
as_optional (Some found) = Gives (optional found)
