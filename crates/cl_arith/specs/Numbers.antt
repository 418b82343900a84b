-- Whole numbers without an end, and the test that one is in the range of a kind of number.
use Rattle.std.specs.Prelude.{ℕ, ◌-◌, ◌^◌, nat_lt, if◌then◌else◌, ℤ, pos, negsuc, int_lt, Result, Ok, Err}
pub use Rattle.cl_arith.specs.declared.Num.{Num}
pub use Rattle.cl_arith.specs.declared.Num.TheVariants.{Int, Uint}
pub use Rattle.cl_arith.specs.declared.ArithRefusal.{ArithRefusal}
pub use Rattle.cl_arith.specs.declared.ArithRefusal.TheVariants.{Overflow, Underflow, DivideByZero, NegativeArgument}

pub data Kind : Type 0 where
  IntKind UintKind : Kind

abbrev pub kind_of : Num → Kind
kind_of (Int z) = IntKind
kind_of (Uint n) = UintKind

-- the whole number that a number stands for
abbrev pub whole : Num → ℤ
whole (Int z) = z
whole (Uint n) = pos n

-- the whole number, where it is from -2^127 to 2^127 - 1
abbrev pub as_int : ℤ → Result ℤ ArithRefusal
as_int z = if int_lt (pos (2 ^ 127 - 1)) z then Err Overflow else if int_lt z (negsuc (2 ^ 127 - 1)) then Err Underflow else Ok z

-- the whole number, where it is from 0 to 2^128 - 1
abbrev pub as_uint : ℤ → Result ℕ ArithRefusal
as_uint (pos n) = if nat_lt (2 ^ 128 - 1) n then Err Overflow else Ok n
as_uint (negsuc n) = Err Underflow

abbrev pub int_number : Result ℤ ArithRefusal → Result Num ArithRefusal
int_number (Ok z) = Ok (Int z)
int_number (Err why) = Err why

abbrev pub uint_number : Result ℕ ArithRefusal → Result Num ArithRefusal
uint_number (Ok n) = Ok (Uint n)
uint_number (Err why) = Err why

-- the number of a kind that a whole number is
abbrev pub in_range : Kind → ℤ → Result Num ArithRefusal
in_range IntKind z = int_number (as_int z)
in_range UintKind z = uint_number (as_uint z)
