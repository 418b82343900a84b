-- Numbers joined bit by bit, one after another.
use Rattle.std.specs.Prelude.{List, fold}
use Rattle.cl_arith.specs.declared.Num.{Num}
use Rattle.cl_arith.specs.Operations.{exclusive_or}
use Rattle.cl_arith.specs.Bits.{conjunction, disjunction}
use Rattle.cl_values.specs.Computed.{Computed, Gives}
use Rattle.cl_values.specs.Arithmetic.{value_of}
use Rattle.cl_apply.specs.declared.bits.Joining.{Joining}
use Rattle.cl_apply.specs.declared.bits.Joining.TheVariants.{And, Or, Xor}

abbrev pub joining_of : Joining → Num → Num → Num
joining_of And = conjunction
joining_of Or = disjunction
joining_of Xor = exclusive_or

-- a number joined with the others from the left
abbrev pub join_from : (Num → Num → Num) → Num → List Num → Computed
join_from join a ns = Gives (value_of (fold join a ns))
