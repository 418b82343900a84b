-- Natives on the bits of numbers. The operations themselves are those of `cl_arith`.
use Rattle.std.specs.Prelude.{ℕ, List, [], ◌∷◌, fold, Option, Some, None}
use Rattle.cl_arith.specs.declared.Num.{Num}
use Rattle.cl_arith.specs.Operations.{exclusive_or}
use Rattle.cl_arith.specs.Bits.{conjunction, disjunction, complement, shifted_left, shifted_right}
use Rattle.cl_values.specs.Tree.{Tree, UintV}
use Rattle.cl_values.specs.Computed.{Computed, Gives, Undefined}
use Rattle.cl_values.specs.Arithmetic.{value_of, number_of, numeric, of_one}

-- one or more numbers joined from the left
abbrev pub joined_by : (Num → Num → Num) → List Num → Computed
joined_by join [] = Undefined
joined_by join (a ∷ ns) = Gives (value_of (fold join a ns))

abbrev pub conjunction_of : List Tree → Computed
conjunction_of vs = numeric (joined_by conjunction) vs

abbrev pub disjunction_of : List Tree → Computed
disjunction_of vs = numeric (joined_by disjunction) vs

abbrev pub exclusive_of : List Tree → Computed
exclusive_of vs = numeric (joined_by exclusive_or) vs

abbrev pub complement_value : Num → Computed
complement_value a = Gives (value_of (complement a))

abbrev pub complement_of : List Tree → Computed
complement_of vs = numeric (of_one complement_value) vs

abbrev pub shifted_by : (Num → ℕ → Num) → ℕ → Option Num → Computed
shifted_by shift places None = Undefined
shifted_by shift places (Some a) = Gives (value_of (shift a places))

-- a number by a uint of places
abbrev pub shifted : (Num → ℕ → Num) → List Tree → Computed
shifted shift (v ∷ UintV places ∷ []) = shifted_by shift places (number_of v)
shifted shift vs = Undefined

abbrev pub left_shift : List Tree → Computed
left_shift vs = shifted shifted_left vs

abbrev pub right_shift : List Tree → Computed
right_shift vs = shifted shifted_right vs
