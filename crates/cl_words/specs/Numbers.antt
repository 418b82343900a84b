-- Words that are numbers.
use Rattle.std.specs.Prelude.{ℕ, List, Option, Some, None, ◌&&◌, nat_le, if◌then◌else◌}
use Rattle.cl_sexpr.specs.Leaf.{are_digits, value_of}

-- the number that decimal digits spell, leading zeros allowed; none where it is greater, or where there is another byte or none
abbrev pub number_within : List ℕ → ℕ → Option ℕ
number_within word most = if are_digits word && nat_le (value_of word) most then Some (value_of word) else None
