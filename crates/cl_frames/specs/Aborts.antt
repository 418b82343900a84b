-- How a call aborts, by what a limit leaves of it.
use Rattle.std.specs.Prelude.{◌≡◌, Option, Some, None, Result, Ok, Err}
use Rattle.cl_types.specs.declared.fault.Fault.{Fault}
use Rattle.cl_types.specs.declared.fault.Fault.TheVariants.{Refused, NoMemory as OutOfMemory}
use Rattle.cl_types.specs.Fault.{IsRefusal}
use Rattle.cl_arith.specs.declared.ArithRefusal.{ArithRefusal}
use Rattle.cl_arith.specs.declared.ArithRefusal.TheVariants as arith
use Rattle.cl_shapes.specs.Limits.{Purse}
use Rattle.cl_values.specs.Tree.{Tree as Val}
use Rattle.cl_events.specs.State.{State}
use Rattle.cl_meaning.specs.Answers.{ByArithmetic, ByPanic, BySupply}
use Rattle.cl_meaning.specs.Limits.{Limited, Gave, Threw, AbortedBy, Passed}
use Rattle.cl_frames.specs.declared.stop.Stop.{Stop}
use Rattle.cl_frames.specs.declared.stop.Stop.TheVariants as stop
use Rattle.cl_frames.specs.declared.abort.Abort.{Abort}
use Rattle.cl_frames.specs.declared.abort.Abort.TheVariants.{Overflow, Underflow, DivideByZero, NegativeArgument, Panic, SupplyOverflow, EarlyTop, CostLimit}

-- a value is thrown, and no function returns it
abbrev pub IsEarly : {A : Type 0} → Limited A → Purse → Type 0
IsEarly (Threw v s p) q = p ≡ q
IsEarly l q = ⊥

-- what a limit leaves where a call aborts so, with what is spent then
abbrev pub AbortsBy : {A : Type 0} → Limited A → Abort → Purse → Type 0
AbortsBy l Overflow q = l ≡ AbortedBy (ByArithmetic arith.Overflow) q
AbortsBy l Underflow q = l ≡ AbortedBy (ByArithmetic arith.Underflow) q
AbortsBy l DivideByZero q = l ≡ AbortedBy (ByArithmetic arith.DivideByZero) q
AbortsBy l NegativeArgument q = l ≡ AbortedBy (ByArithmetic arith.NegativeArgument) q
AbortsBy l Panic q = l ≡ AbortedBy ByPanic q
AbortsBy l SupplyOverflow q = l ≡ AbortedBy BySupply q
AbortsBy l EarlyTop q = IsEarly l q
AbortsBy l (CostLimit over) q = l ≡ Passed over q

-- a call gives what the limit leaves, with what is spent then and the state that is left; or aborts as it says
abbrev pub Answers : Limited Val → Result Val (Fault Abort) → Purse → State → Type 0
Answers l (Ok v) q s = l ≡ Gave v s q
Answers l (Err fault) q s = IsRefusal fault (λ abort. AbortsBy l abort q)

abbrev pub abort_of : ArithRefusal → Abort
abort_of arith.Overflow = Overflow
abort_of arith.Underflow = Underflow
abort_of arith.DivideByZero = DivideByZero
abort_of arith.NegativeArgument = NegativeArgument

-- how a call aborts by why its evaluation stops; there is no such answer where it is stuck
abbrev pub fault_of : Stop → Option (Fault Abort)
fault_of (stop.Thrown v) = Some (Refused EarlyTop)
fault_of (stop.Arithmetic why) = Some (Refused (abort_of why))
fault_of stop.Panic = Some (Refused Panic)
fault_of stop.Supply = Some (Refused SupplyOverflow)
fault_of (stop.CostLimit over) = Some (Refused (CostLimit over))
fault_of stop.Stuck = None
fault_of stop.NoMemory = Some OutOfMemory

-- what is spent then: after want of memory what was spent before
abbrev pub purse_after : Stop → Purse → Purse → Purse
purse_after stop.NoMemory before now = before
purse_after e before now = now

abbrev pub IsNotStuck : Stop → Type 0
IsNotStuck stop.Stuck = ⊥
IsNotStuck e = Unit {0}

-- why the evaluation of a call may stop: it is not stuck, and no value is thrown out of it
abbrev pub StopsCall : Stop → Type 0
StopsCall (stop.Thrown v) = ⊥
StopsCall stop.Stuck = ⊥
StopsCall e = Unit {0}
