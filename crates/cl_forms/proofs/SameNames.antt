-- Names that are compared, with the sides turned.
use Rattle.std.proofs.Common.{◌≡◌, ℕ, List}
use Rattle.std.specs.Cmp.{both_ways}
use Rattle.cl_types.proofs.Lattice.{key_back}
use Rattle.cl_forms.specs.Names.{same}

pub same_turned : (x y : List ℕ) → same x y ≡ same y x
same_turned x y = both_ways (same x y) (same y x) (key_back x y) (key_back y x)
