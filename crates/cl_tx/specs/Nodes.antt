-- A node between two transactions, and what a transaction makes of it.
use Rattle.std.specs.Prelude.{ℕ, true, false, List, [], ◌∷◌, ◌++◌, Option, Some, None}
use Rattle.cl_types.specs.Types.{PlainType}
use Rattle.cl_types.specs.declared.sized.Access.{Access}
use Rattle.cl_types.specs.declared.sized.Access.TheVariants.{Public}
use Rattle.cl_c32.specs.Address.{AddressParts}
use Rattle.cl_c32.specs.declared.principal.Principal.{Principal}
use Rattle.cl_arith.specs.declared.ArithRefusal.TheVariants as arith
use Rattle.cl_shapes.specs.declared.cost.Cost5.{Cost5}
use Rattle.cl_shapes.specs.Limits.{Purse, full}
use Rattle.cl_values.specs.Tree.{Tree, ResponseV}
use Rattle.cl_events.specs.State.{State, at_rest}
use Rattle.cl_events.specs.declared.event.Event.{Event}
use Rattle.cl_file.specs.declared.entry.Common.{Common}
use Rattle.cl_meaning.specs.Answers.{Cause, ByArithmetic, ByPanic, BySupply}
use Rattle.cl_meaning.specs.Deployed.{Contract, Deployed}
use Rattle.cl_meaning.specs.Limits.{Limited, Gave, Threw, AbortedBy, Passed, Lost}
use Rattle.cl_meaning.specs.Scope.{Frame}
use Rattle.cl_rules.specs.Context.{Known}
use Rattle.cl_post.specs.Post.{holds}
use Rattle.cl_tx.specs.declared.outcome.Stop.{Stop}
use Rattle.cl_tx.specs.declared.outcome.Stop.TheVariants as stop
use Rattle.cl_tx.specs.declared.outcome.EntryRefusal.{EntryRefusal}
use Rattle.cl_tx.specs.declared.outcome.Outcome.{Outcome}
use Rattle.cl_tx.specs.declared.outcome.Outcome.TheVariants.{Moved, Done, Good, Bad, Plain, Aborted, Refused}
use Rattle.cl_tx.specs.declared.outcome.Bounds.{Bounds}
use Rattle.cl_tx.specs.declared.outcome.Rebound.{Rebound}
use Rattle.cl_tx.specs.declared.outcome.TxResult.{TxResult}

-- The state, which is at rest; the deployed contracts, in the order of their deployments, as evaluations see them, and the same
-- ones as their callers see them; and the height of the block.
pub record NodeSeen : Type 0 where
  pub state : State
  pub contracts : Deployed
  pub known : List Known
  pub height : ℕ

-- the node after an entry, and the entry's result
pub record Stepped : Type 0 where
  pub node : NodeSeen
  pub result : TxResult

-- a sender, who is no contract
abbrev pub person : AddressParts → Principal
person sender = record { address = sender; contract = None }

-- a contract deployed by a sender
abbrev pub contract_of : AddressParts → List ℕ → Principal
contract_of sender name = record { address = sender; contract = Some name }

-- the frame of what a sender runs
abbrev pub frame_of : NodeSeen → AddressParts → Principal → Frame
frame_of node sender contract = record { contract = contract; sender = person sender; caller = person sender; height = node.height }

-- nothing is spent of an entry's limit
abbrev pub purse_of : Common → Purse
purse_of common = full common.limit

-- the abort that a cause is
abbrev pub stop_of : Cause → Stop
stop_of (ByArithmetic arith.Overflow) = stop.Overflow
stop_of (ByArithmetic arith.Underflow) = stop.Underflow
stop_of (ByArithmetic arith.DivideByZero) = stop.DivideByZero
stop_of (ByArithmetic arith.NegativeArgument) = stop.NegativeArgument
stop_of ByPanic = stop.Panic
stop_of BySupply = stop.SupplyOverflow

-- ---- results

-- what a result tells of an accepted contract: its bounds, and what its functions return
pub record Told : Type 0 where
  pub bounds : Option Bounds
  pub types : List PlainType

abbrev pub nothing_told : Told
nothing_told = record { bounds = None; types = [] }

abbrev pub result_of : Told → Outcome → Option Cost5 → List Event → TxResult
result_of told outcome cost events = record { outcome = outcome; cost = cost; bounds = told.bounds; types = told.types; events = events; rebounds = [] }

-- the node stays as it was, and no event is handed out
abbrev pub stays : NodeSeen → Told → Outcome → Option Cost5 → Stepped
stays node told outcome cost = record { node = node; result = result_of told outcome cost [] }

abbrev pub refused : NodeSeen → EntryRefusal → Stepped
refused node refusal = stays node nothing_told (Refused refusal) None

abbrev pub aborted : NodeSeen → Told → Stop → Cost5 → Stepped
aborted node told why cost = stays node told (Aborted why) (Some cost)

-- the node moves on to a state, whose events are handed out
abbrev pub moves_on : NodeSeen → Told → Outcome → Cost5 → State → Stepped
moves_on node told outcome cost s = record {
  node = record node { state = at_rest s };
  result = result_of told outcome (Some cost) s.events;
}

-- a block begins at a height, and its result has these bounds of deployed functions
abbrev pub moved : NodeSeen → ℕ → List Rebound → Stepped
moved node height lines = record {
  node = record node { height = height };
  result = record (result_of nothing_told Moved None []) { rebounds = lines };
}

-- The end of an entry without an err and an abort: the node moves on to what it came to be in a state. But where a
-- post-condition fails, by its place, it stays as it was, and what was charged stays charged.
abbrev pub settled_by : Option ℕ → NodeSeen → NodeSeen → Told → Outcome → Cost5 → State → Stepped
settled_by None before after told outcome cost s = moves_on after told outcome cost s
settled_by (Some index) before after told outcome cost s = aborted before told (stop.PostCondition index) cost

-- the same by the conditions of the entry, of what moved in the state
abbrev pub settled : Common → NodeSeen → NodeSeen → Told → Outcome → Cost5 → State → Stepped
settled common before after told outcome cost s = settled_by (holds s.moves common.mode common.conditions) before after told outcome cost s

-- ---- what comes of a run under a limit; a run that is wrong or needs more depth comes to nothing, and an application throws nothing

-- a public function answers a response, whose err undoes all; another function gives a plain value
abbrev pub answered : Common → Access → Tree → NodeSeen → Cost5 → State → Option Stepped
answered common Public (ResponseV true v) node cost s = Some (settled common node node nothing_told (Good v) cost s)
answered common Public (ResponseV false v) node cost s = Some (stays node nothing_told (Bad v) (Some cost))
answered common Public v node cost s = None
answered common access v node cost s = Some (settled common node node nothing_told (Plain v) cost s)

abbrev pub call_ended : Common → Access → NodeSeen → Limited Tree → Option Stepped
call_ended common access node (Gave v s purse) = answered common access v node purse.spent s
call_ended common access node (Threw v s purse) = None
call_ended common access node (AbortedBy why purse) = Some (aborted node nothing_told (stop_of why) purse.spent)
call_ended common access node (Passed over purse) = Some (aborted node nothing_told (stop.CostLimit over) over.attempted)
call_ended common access node (Lost purse) = None

abbrev pub with_contract : NodeSeen → Contract → Known → NodeSeen
with_contract node contract known = record node { contracts = node.contracts ++ contract ∷ []; known = node.known ++ known ∷ [] }

abbrev pub deployment_ended : Common → NodeSeen → Told → Known → Limited Contract → Option Stepped
deployment_ended common node told known (Gave contract s purse) = Some (settled common node (with_contract node contract known) told Done purse.spent s)
deployment_ended common node told known (Threw v s purse) = Some (aborted node told stop.EarlyTop purse.spent)
deployment_ended common node told known (AbortedBy why purse) = Some (aborted node told (stop_of why) purse.spent)
deployment_ended common node told known (Passed over purse) = Some (aborted node told (stop.CostLimit over) over.attempted)
deployment_ended common node told known (Lost purse) = None
