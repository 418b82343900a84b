-- The bytes of a contract's name.
use Rattle.std.specs.Prelude.{ℕ, ◌≤◌, ◌==◌, ◌&&◌, ◌||◌, nat_le, Bool, false, List, [], ◌∷◌, length, IsTrue}
use Rattle.std.specs.List.{list_all}

-- A to Z, a to z
abbrev pub is_letter : ℕ → Bool
is_letter c = (nat_le 65 c && nat_le c 90) || (nat_le 97 c && nat_le c 122)

-- a letter, 0 to 9, - or _
abbrev pub is_name_byte : ℕ → Bool
is_name_byte c = is_letter c || (nat_le 48 c && nat_le c 57) || c == 45 || c == 95

-- a letter, and then letters, digits, - and _
abbrev pub fits_pattern : List ℕ → Bool
fits_pattern [] = false
fits_pattern (c ∷ cs) = is_letter c && list_all is_name_byte cs

-- the pattern, within 128 bytes
pub record IsContractName (bytes : List ℕ) : Type 0 where
  pub pattern : IsTrue (fits_pattern bytes)
  pub within : length bytes ≤ 128
