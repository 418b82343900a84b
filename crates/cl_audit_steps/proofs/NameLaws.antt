-- What stands under a name.
use Rattle.std.proofs.Common.{◌≡◌, ℕ, Bool, true, false, List, [], ◌∷◌, ◌++◌, Option, Some, refl}
use Rattle.std.specs.Prelude.{if◌then◌else◌}
use Rattle.std.specs.Str.{bytes_eq}
use Rattle.std.specs.Option.{option_or}
use Rattle.cl_values.specs.Tree.{Tree as Val}
use Rattle.cl_meaning.specs.Deployed.{value_of}

one_before : (b : Bool) (v : Val) (o c r : Option Val) → option_or o c ≡ r → option_or (if b then Some v else o) c ≡ (if b then Some v else r)
one_before true v o c r h = refl
one_before false v o c r h = h

pub value_in_both : (x : List ℕ) (outer own : List (List ℕ × Val)) → option_or (value_of x outer) (value_of x own) ≡ value_of x (outer ++ own)
value_in_both x [] own = refl
value_in_both x (e ∷ outer) own = one_before (bytes_eq e.0 x) e.1 (value_of x outer) (value_of x own) (value_of x (outer ++ own)) (value_in_both x outer own)
