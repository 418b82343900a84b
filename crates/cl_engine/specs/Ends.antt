-- How an evaluation ends.
use Rattle.std.specs.Prelude.{◌≡◌, Some, Result, Ok, Err}
use Rattle.cl_types.specs.declared.fault.Fault.{Fault}
use Rattle.cl_types.specs.declared.fault.Fault.TheVariants.{Refused, NoMemory as OutOfMemory}
use Rattle.cl_types.specs.declared.sized.Access.{Access}
use Rattle.cl_types.specs.declared.sized.Access.TheVariants.{Public}
use Rattle.cl_shapes.specs.declared.cost.Cost5.{Cost5}
use Rattle.cl_shapes.specs.Limits.{Purse}
use Rattle.cl_values.specs.Tree.{Tree}
use Rattle.cl_events.specs.State.{State}
use Rattle.cl_meaning.specs.Limits.{Limited}
use Rattle.cl_file.specs.declared.entry.Common.{Common}
use Rattle.cl_frames.specs.declared.abort.Abort.{Abort}
use Rattle.cl_frames.specs.Aborts.{Answers}
use Rattle.cl_frames.specs.declared.abort.Abort.TheVariants.{Overflow, Underflow, DivideByZero, NegativeArgument, Panic, SupplyOverflow, EarlyTop, CostLimit}
use Rattle.cl_tx.specs.declared.outcome.Stop.{Stop}
use Rattle.cl_tx.specs.declared.outcome.Stop.TheVariants as stop
use Rattle.cl_tx.specs.Nodes.{NodeSeen, call_ended}
use Rattle.cl_nodes.specs.declared.ending.Ended.{Ended}
use Rattle.cl_nodes.specs.Calling.{IsResponse, ended_so}

-- ---- aborts

-- the abort that the result of an entry has
abbrev pub stop_by : Abort → Stop
stop_by Overflow = stop.Overflow
stop_by Underflow = stop.Underflow
stop_by DivideByZero = stop.DivideByZero
stop_by NegativeArgument = stop.NegativeArgument
stop_by Panic = stop.Panic
stop_by SupplyOverflow = stop.SupplyOverflow
stop_by EarlyTop = stop.EarlyTop
stop_by (CostLimit over) = stop.CostLimit over

-- what an abort costs: what is spent, or the first sum that is above the limit
abbrev pub cost_by : Abort → Cost5 → Cost5
cost_by (CostLimit over) spent = over.attempted
cost_by abort spent = spent

-- ---- calls

-- how a call may abort: nothing is thrown out of it
abbrev pub AbortsCall : Abort → Type 0
AbortsCall EarlyTop = ⊥
AbortsCall abort = Unit {0}

-- what a function of this access may answer; a public one gives a response
abbrev pub MayAnswer : Access → Result Tree (Fault Abort) → Type 0
MayAnswer access (Ok v) = access ≡ Public → IsResponse v
MayAnswer access (Err (Refused abort)) = AbortsCall abort
MayAnswer access (Err OutOfMemory) = Unit {0}

-- how a call of a function of this access ends, by its answer, by what it has spent and by the state on its layer
abbrev pub JudgedSo : Common → Access → Result Tree (Fault Abort) → Cost5 → State → Ended → Type 0
JudgedSo common access answer spent s e =
    (l : Limited Tree) (q : Purse) (node : NodeSeen) → Answers l answer q s → q.spent ≡ spent → call_ended common access node l ≡ Some (ended_so e node s)
