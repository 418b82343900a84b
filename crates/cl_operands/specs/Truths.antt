-- Truth values joined by `and` or `or`.
use Rattle.std.specs.Prelude.{◌&&◌, ◌||◌, Bool, true, false, Option, Some, None}
use Rattle.cl_values.specs.Tree.{Tree as Val, BoolV}

abbrev pub truth_of : Val → Option Bool
truth_of (BoolV b) = Some b
truth_of v = None

-- `and` of both, or `or`
abbrev pub join : Bool → Bool → Bool → Bool
join true b c = b && c
join false b c = b || c
