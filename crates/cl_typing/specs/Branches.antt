-- Rows of match and try by the types of all parts.
use Rattle.std.specs.Prelude.{◌||◌, not, List, [], ◌∷◌, Option, None}
use Rattle.cl_types.specs.Types.{PlainType, OptionalType, ResponseType}
use Rattle.cl_types.specs.TypeKinds.{is_undetermined}
use Rattle.cl_rules.specs.NativeTypes.{Ruled, lubbed, wrong_kind}
use Rattle.cl_rules.specs.ControlShapes.{if_determined, tried}

-- a match of an optional: its input, and its branches
abbrev pub optional_row : List PlainType → Ruled
optional_row (OptionalType t ∷ a ∷ b ∷ []) = if_determined (not (is_undetermined t)) (lubbed a b)
optional_row ts = wrong_kind

-- a match of a response: its input, and its branches
abbrev pub response_row : List PlainType → Ruled
response_row (ResponseType t e ∷ a ∷ b ∷ []) = if_determined (not (is_undetermined t || is_undetermined e)) (lubbed a b)
response_row ts = wrong_kind

-- what the one argument throws where it is tried
abbrev pub tried_of : List PlainType → Option PlainType
tried_of (t ∷ []) = tried t
tried_of ts = None
