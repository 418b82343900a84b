-- Numbers in the range of their kind.
use Rattle.std.specs.Prelude.{◌<◌, ◌^◌, Result, Ok, Err, FitsSigned}
use Rattle.std.specs.Int.{w128}
use Rattle.cl_arith.specs.Numbers.{Num, Int, Uint, ArithRefusal, Kind, IntKind, UintKind}

-- a number of a kind, in its range
abbrev pub IsNumber : Kind → Num → Type 0
IsNumber IntKind (Int z) = FitsSigned w128 z
IsNumber UintKind (Uint n) = n < 2 ^ 128
IsNumber kind n = ⊥

-- a result, where there is one, is a number of a kind, in its range
abbrev pub IsInRange : Kind → Result Num ArithRefusal → Type 0
IsInRange kind (Ok n) = IsNumber kind n
IsInRange kind (Err why) = Unit {0}
