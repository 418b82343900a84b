-- When two principals are one.
use Rattle.std.specs.Prelude.{ℕ, ◌&&◌, nat_eq, Bool, true, false, List, [], ◌++◌, ◌∷◌, length, Option, Some, None}
use Rattle.std.specs.Str.{bytes_eq}
use Rattle.cl_c32.specs.Address.{address_bytes}
use Rattle.cl_c32.specs.declared.principal.Principal.{Principal}

-- no contract's name on both sides, or the same
abbrev pub same_part : Option (List ℕ) → Option (List ℕ) → Bool
same_part None None = true
same_part (Some x) (Some y) = bytes_eq x y
same_part p q = false

-- two principals are one
abbrev pub same_principal : Principal → Principal → Bool
same_principal p q = nat_eq p.address.version q.address.version && bytes_eq p.address.hash q.address.hash && same_part p.contract q.contract

-- the bytes of a contract's name
abbrev pub part_bytes : Option (List ℕ) → List ℕ
part_bytes None = []
part_bytes (Some name) = name

-- the length of the contract's name, 0 for none, the address and this name
abbrev pub principal_bytes : Principal → List ℕ
principal_bytes p = length (part_bytes p.contract) ∷ (address_bytes p.address ++ part_bytes p.contract)
