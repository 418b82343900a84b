-- Operations on whole numbers, whose results are then tested for the range.
use Rattle.std.specs.Prelude.{ℕ, zero, ℤ, pos, negsuc, ◌+ℤ◌, ◌-ℤ◌, ◌*ℤ◌, int_div, int_rem, bit_xor, Result, Ok, Err}
use Rattle.std.specs.Int.{int_pow, w128, cast_signed, cast_unsigned}
use Rattle.cl_arith.specs.Numbers.{Num, Int, Uint, ArithRefusal, DivideByZero, NegativeArgument, Kind, IntKind, UintKind, kind_of, whole, in_range}

abbrev pub Operation : Type 0
Operation = ℤ → ℤ → Result ℤ ArithRefusal

abbrev pub sum : Operation
sum x y = Ok (x +ℤ y)

abbrev pub difference : Operation
difference x y = Ok (x -ℤ y)

abbrev pub product : Operation
product x y = Ok (x *ℤ y)

-- rounded toward zero
abbrev pub quotient : Operation
quotient x (pos zero) = Err DivideByZero
quotient x y = Ok (int_div x y)

-- with the dividend's sign
abbrev pub remainder : Operation
remainder x (pos zero) = Err DivideByZero
remainder x y = Ok (int_rem x y)

abbrev pub power : Operation
power x (pos n) = Ok (int_pow x n)
power x (negsuc n) = Err NegativeArgument

abbrev pub tested : Kind → Result ℤ ArithRefusal → Result Num ArithRefusal
tested kind (Ok z) = in_range kind z
tested kind (Err why) = Err why

-- an operation on two numbers of one kind
abbrev pub computed : Operation → Num → Num → Result Num ArithRefusal
computed operation a b = tested (kind_of a) (operation (whole a) (whole b))

-- the 128 bits of a number, of an int in two's complement
abbrev pub bits_of : Num → ℕ
bits_of (Int z) = cast_unsigned w128 z
bits_of (Uint n) = n

abbrev pub of_bits : Kind → ℕ → Num
of_bits IntKind n = Int (cast_signed w128 n)
of_bits UintKind n = Uint n

-- a bit is set where it is set in one of the two
abbrev pub exclusive_or : Num → Num → Num
exclusive_or a b = of_bits (kind_of a) (bit_xor (bits_of a) (bits_of b))
