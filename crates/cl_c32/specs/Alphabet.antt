-- The characters of address texts.
use Rattle.std.specs.Prelude.{ℕ, ◌==◌, List, Option, codes, slice_index, unwrap_or}
use Rattle.std.specs.List.{position_from}

-- the 32 digits: no I, L, O or U
unfoldable pub alphabet : List ℕ
alphabet = codes "0123456789ABCDEFGHJKMNPQRSTVWXYZ"

-- the character of a digit
abbrev pub character_of : ℕ → ℕ
character_of digit = slice_index alphabet digit

-- the digit that a character stands for
unfoldable pub digit_of : ℕ → Option ℕ
digit_of character = position_from (λ c. c == character) 0 alphabet

-- the same, and 0 where it stands for none
abbrev pub digit_value : ℕ → ℕ
digit_value character = unwrap_or (digit_of character) 0
