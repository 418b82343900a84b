-- Why an evaluation stops is how the call aborts.
use Rattle.std.proofs.Common.{◌≡◌, Option, Some, None, Result, Ok, Err, refl, sym, subst}
use Rattle.cl_arith.specs.declared.ArithRefusal.{ArithRefusal}
use Rattle.cl_arith.specs.declared.ArithRefusal.TheVariants.{Overflow, Underflow, DivideByZero, NegativeArgument}
use Rattle.cl_types.specs.declared.fault.Fault.{Fault}
use Rattle.cl_types.specs.Fault.{IsRefusal}
use Rattle.cl_types.specs.declared.fault.Fault.TheVariants.{NoMemory as OutOfMemory}
use Rattle.cl_shapes.specs.declared.cost.Cost5.{Cost5}
use Rattle.cl_shapes.specs.Costs.{IsAtMost}
use Rattle.cl_shapes.specs.Limits.{Purse}
use Rattle.cl_values.specs.Tree.{Tree as Val}
use Rattle.cl_events.specs.State.{State}
use Rattle.cl_meaning.specs.Answers.{ByArithmetic}
use Rattle.cl_meaning.specs.Limits.{Limited, Gave, Threw, AbortedBy}
use Rattle.cl_contract_sound.specs.Laws.{spent_in}
use Rattle.cl_frames.specs.declared.stop.Stop.{Stop}
use Rattle.cl_frames.specs.declared.stop.Stop.TheVariants.{Thrown, Arithmetic, Panic, Supply, CostLimit, Stuck, NoMemory}
use Rattle.cl_frames.specs.declared.abort.Abort.{Abort}
use Rattle.cl_frames.specs.Runs.{Stops}
use Rattle.cl_frames.specs.Aborts.{AbortsBy, IsEarly, abort_of, fault_of, purse_after}

by_arithmetic : {A : Type 0} (l : Limited A) (why : ArithRefusal) (q : Purse) → l ≡ AbortedBy (ByArithmetic why) q → AbortsBy l (abort_of why) q
by_arithmetic l Overflow q h = h
by_arithmetic l Underflow q h = h
by_arithmetic l DivideByZero q h = h
by_arithmetic l NegativeArgument q h = h

thrown_early : {A : Type 0} (l : Limited A) (v : Val) (s : State) (q : Purse) → l ≡ Threw v s q → IsEarly l q
thrown_early l v s q h = subst (λ m. IsEarly m q) (sym h) refl

-- the abort, where there is one
abbrev AbortsAs : {A : Type 0} → Limited A → Purse → Option (Fault Abort) → Type 0
AbortsAs l q None = Unit {0}
AbortsAs l q (Some fault) = IsRefusal fault (λ abort. AbortsBy l abort q)

stops_as : {A : Type 0} (l : Limited A) (e : Stop) (before q : Purse) (s : State) → Stops l e q s → AbortsAs l (purse_after e before q) (fault_of e)
stops_as l (Thrown v) before q s h = thrown_early l v s q h
stops_as l (Arithmetic why) before q s h = by_arithmetic l why q h
stops_as l Panic before q s h = h
stops_as l Supply before q s h = h
stops_as l (CostLimit over) before q s h = h
stops_as l Stuck before q s h = tt
stops_as l NoMemory before q s h = tt

pub aborts : {A : Type 0} (l : Limited A) (e : Stop) (f : Fault Abort) (before q r : Purse) (s : State) → fault_of e ≡ Some f → r ≡ purse_after e before q → Stops l e q s → IsRefusal f (λ abort. AbortsBy l abort r)
aborts l e f before q r s h is k = subst (λ (p : Purse). IsRefusal f (λ abort. AbortsBy l abort p)) (sym is) (subst (AbortsAs l (purse_after e before q)) h (stops_as l e before q s k))

-- after want of memory nothing is spent
pub memory_spends_nothing : (e : Stop) (f : Fault Abort) (before q r : Purse) → fault_of e ≡ Some f → r ≡ purse_after e before q → f ≡ OutOfMemory → r ≡ before
memory_spends_nothing (Thrown v) f before q r h is e = absurd cc
memory_spends_nothing (Arithmetic why) f before q r h is e = absurd cc
memory_spends_nothing Panic f before q r h is e = absurd cc
memory_spends_nothing Supply f before q r h is e = absurd cc
memory_spends_nothing (CostLimit over) f before q r h is e = absurd cc
memory_spends_nothing Stuck f before q r h is e = absurd cc
memory_spends_nothing NoMemory f before q r h is e = is

pub same_fault : {A : Type 0} (f g : Fault Abort) → (let x : Result A (Fault Abort) = Err f in let y : Result A (Fault Abort) = Err g in x ≡ y) → f ≡ g
same_fault f g e = cc

pub no_fault : {A : Type 0} (v : A) (f : Fault Abort) (P : Type 0) → Ok v ≡ Err f → P
no_fault v f P e = absurd cc

-- ---- what is spent

-- where a value is given
pub given_spends : {A : Type 0} (l : Limited A) (v : A) (s : State) (q : Purse) (most : Cost5) → l ≡ Gave v s q → IsAtMost (spent_in l) most → IsAtMost q.spent most
given_spends {A = A} l v s q most is low = subst (λ (m : Limited A). IsAtMost (spent_in m) most) is low

-- and where it stops
pub stopped_spends : {A : Type 0} (l : Limited A) (e : Stop) (before q : Purse) (s : State) (most : Cost5) → Stops l e q s → IsAtMost (spent_in l) most → IsAtMost before.spent most → IsAtMost (purse_after e before q).spent most
stopped_spends {A = A} l (Thrown v) before q s most h low least = subst (λ (m : Limited A). IsAtMost (spent_in m) most) h low
stopped_spends {A = A} l (Arithmetic why) before q s most h low least = subst (λ (m : Limited A). IsAtMost (spent_in m) most) h low
stopped_spends {A = A} l Panic before q s most h low least = subst (λ (m : Limited A). IsAtMost (spent_in m) most) h low
stopped_spends {A = A} l Supply before q s most h low least = subst (λ (m : Limited A). IsAtMost (spent_in m) most) h low
stopped_spends {A = A} l (CostLimit over) before q s most h low least = subst (λ (m : Limited A). IsAtMost (spent_in m) most) h low
stopped_spends {A = A} l Stuck before q s most h low least = subst (λ (m : Limited A). IsAtMost (spent_in m) most) h low
stopped_spends l NoMemory before q s most h low least = least
