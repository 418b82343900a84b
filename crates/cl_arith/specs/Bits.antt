-- The 128 bits of numbers, an int in two's complement, and what is made of them. Bit 0 is the lowest.
use Rattle.std.specs.Prelude.{ℕ, ◌*◌, ◌/◌, ◌%◌, ◌^◌, bit_and, bit_or}
use Rattle.std.specs.Int.{w128, bit_at, bit_not, int_shr}
use Rattle.cl_arith.specs.Numbers.{Num, Int, Uint, kind_of}
use Rattle.cl_arith.specs.Operations.{bits_of, of_bits}

-- the bit of a number at a place
abbrev pub bit : Num → ℕ → ℕ
bit a place = bit_at (bits_of a) place

-- a bit is set where it is set in both
abbrev pub conjunction : Num → Num → Num
conjunction a b = of_bits (kind_of a) (bit_and (bits_of a) (bits_of b))

-- a bit is set where it is set in one of the two, or in both
abbrev pub disjunction : Num → Num → Num
disjunction a b = of_bits (kind_of a) (bit_or (bits_of a) (bits_of b))

-- a bit is set where it isn't in the number
abbrev pub complement : Num → Num
complement a = of_bits (kind_of a) (bit_not w128 (bits_of a))

-- how far a shift by so many places goes
abbrev pub distance : ℕ → ℕ
distance places = places % 128

-- each bit stands so far above where it stood; what would stand above bit 127 is lost, and zeros follow from below
abbrev pub shifted_left : Num → ℕ → Num
shifted_left a places = of_bits (kind_of a) ((bits_of a * 2 ^ distance places) % 2 ^ 128)

-- each bit stands so far below where it stood; what would stand below bit 0 is lost, and above follow zeros, or bits as an int's
-- sign
abbrev pub shifted_right : Num → ℕ → Num
shifted_right (Int z) places = Int (int_shr z (distance places))
shifted_right (Uint n) places = Uint (n / 2 ^ distance places)

-- the bit that follows from above: 1 of an int below 0
abbrev pub following : Num → ℕ
following (Int z) = bit (Int z) 127
following (Uint n) = 0
