-- Lengths that are written as uints.
use Rattle.std.specs.Prelude.{Bool, true, false}
use Rattle.cl_sexpr.specs.Tree.{Tree, LeafAt, Unsigned}

abbrev pub is_unsigned : Tree → Bool
is_unsigned (LeafAt (Unsigned m) at) = true
is_unsigned e = false
