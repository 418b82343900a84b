-- A native with what isn't evaluated: a key, a length.
use Rattle.std.specs.Prelude.{◌≡◌, List, Result, Ok, Err}
use Rattle.cl_types.specs.declared.fault.Fault.{Fault}
use Rattle.cl_types.specs.declared.fault.Fault.TheVariants.{Refused, NoMemory}
use Rattle.cl_values.specs.Tree.{Tree}
use Rattle.cl_values.specs.Computed.{Computed, Gives, Fails, Panics, kept}
use Rattle.cl_values.specs.Sequences.{within_length}
use Rattle.cl_values.specs.Tuples.{part_at}
use Rattle.cl_values.specs.Natives.{ValueRow, One, value_row_of, at_row}
use Rattle.cl_apply.specs.declared.refusal.ApplyRefusal.{ApplyRefusal}
use Rattle.cl_apply.specs.declared.refusal.ApplyRefusal.TheVariants.{Arith, Panic}
use Rattle.cl_apply.specs.declared.call.NativeCall.{NativeCall}
use Rattle.cl_apply.specs.declared.call.NativeCall.TheVariants.{OnValues, Get, AsMaxLen}

abbrev pub call_row : NativeCall → ValueRow
call_row (OnValues native) = value_row_of native
call_row (Get key) = One (part_at key)
call_row (AsMaxLen most) = One (within_length most)

-- what a call is of the values of its arguments
unfoldable pub call_value : NativeCall → List Tree → Computed
call_value call vs = at_row (call_row call) vs

-- the answer of a call that is defined is what is computed, unless memory ran out
abbrev pub Applies : Computed → Result Tree (Fault ApplyRefusal) → Type 0
Applies c (Ok v) = kept c ≡ Gives v
Applies c (Err (Refused (Arith why))) = kept c ≡ Fails why
Applies c (Err (Refused Panic)) = kept c ≡ Panics
Applies c (Err NoMemory) = Unit {0}
