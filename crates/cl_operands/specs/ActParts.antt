-- The values that an act on a token takes.
use Rattle.std.specs.Prelude.{ℕ, List, [], ◌∷◌, Option, Some, None, option_map, option_and_then}
use Rattle.cl_c32.specs.declared.principal.Principal.{Principal}
use Rattle.cl_values.specs.Tree.{Tree as Val, UintV, PrincipalV}

abbrev pub uint_of : Val → Option ℕ
uint_of (UintV n) = Some n
uint_of v = None

abbrev pub principal_of : Val → Option Principal
principal_of (PrincipalV p) = Some p
principal_of v = None

abbrev pub both_principals : Val → Val → Option (Principal × Principal)
both_principals v w = option_and_then (λ p. option_map (λ q. (p, q)) (principal_of w)) (principal_of v)

-- an amount and who has or gets it
abbrev pub amount_and_one : List Val → Option (ℕ × Principal)
amount_and_one (v ∷ w ∷ []) = option_and_then (λ n. option_map (λ p. (n, p)) (principal_of w)) (uint_of v)
amount_and_one vs = None

-- an amount, who has it, and who gets it
abbrev pub amount_and_two : List Val → Option (ℕ × (Principal × Principal))
amount_and_two (v ∷ w ∷ u ∷ []) = option_and_then (λ n. option_map (λ ps. (n, ps)) (both_principals w u)) (uint_of v)
amount_and_two vs = None

-- an asset and who has or gets it
abbrev pub asset_and_one : List Val → Option (Val × Principal)
asset_and_one (v ∷ w ∷ []) = option_map (λ p. (v, p)) (principal_of w)
asset_and_one vs = None

-- an asset, who has it, and who gets it
abbrev pub asset_and_two : List Val → Option (Val × (Principal × Principal))
asset_and_two (v ∷ w ∷ u ∷ []) = option_map (λ ps. (v, ps)) (both_principals w u)
asset_and_two vs = None
