-- What a call that computes a native's value answers.
use Rattle.std.specs.Prelude.{◌≡◌, Result, Ok, Err}
use Rattle.cl_types.specs.declared.fault.Fault.{Fault}
use Rattle.cl_types.specs.declared.fault.Fault.TheVariants.{Refused, NoMemory}
use Rattle.cl_values.specs.Tree.{Tree}
use Rattle.cl_values.specs.Computed.{Computed, Gives, Fails, Panics, Undefined, kept}
use Rattle.cl_values.specs.declared.no_value.NoValue.{NoValue}
use Rattle.cl_values.specs.declared.no_value.NoValue.TheVariants.{Arith, Panic, Undefined as NotDefined}

-- the answer is what is computed, where no memory is taken
abbrev pub Answered : Computed → Result Tree NoValue → Type 0
Answered c (Ok v) = kept c ≡ Gives v
Answered c (Err (Arith why)) = kept c ≡ Fails why
Answered c (Err Panic) = kept c ≡ Panics
Answered c (Err NotDefined) = kept c ≡ Undefined

-- the answer is what is computed, unless memory ran out
abbrev pub Applied : Computed → Result Tree (Fault NoValue) → Type 0
Applied c (Ok v) = Answered c (Ok v)
Applied c (Err (Refused why)) = Answered c (Err why)
Applied c (Err NoMemory) = Unit {0}
