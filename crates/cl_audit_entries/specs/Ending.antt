-- How a walk that ended ends its entry.
use Rattle.std.specs.Prelude.{◌≡◌, Some, Result, Ok, Err}
use Rattle.cl_types.specs.declared.sized.Access.{Access}
use Rattle.cl_types.specs.declared.sized.Access.TheVariants.{Public}
use Rattle.cl_shapes.specs.declared.cost.Cost5.{Cost5}
use Rattle.cl_shapes.specs.Limits.{Purse}
use Rattle.cl_values.specs.Tree.{Tree}
use Rattle.cl_events.specs.State.{State}
use Rattle.cl_meaning.specs.Limits.{Limited, Gave, Threw, AbortedBy, Passed, Lost}
use Rattle.cl_walks.specs.declared.stop.Stop.{Stop}
use Rattle.cl_walks.specs.declared.stop.Stop.TheVariants.{Thrown, Aborted, CostLimit, Stuck, NoMemory}
use Rattle.cl_walks.specs.Ends.{cause}
use Rattle.cl_file.specs.declared.entry.Common.{Common}
use Rattle.cl_tx.specs.Nodes.{NodeSeen, call_ended}
use Rattle.cl_nodes.specs.declared.ending.Ended.{Ended}
use Rattle.cl_nodes.specs.Calling.{IsResponse, ended_so}

-- what a limit leaves of an answer, as a walk has it; after want of memory nothing is said
abbrev pub Leaves : {A : Type 0} → Limited A → Result A Stop → Purse → State → Type 0
Leaves l (Ok v) q s = l ≡ Gave v s q
Leaves l (Err (Thrown v)) q s = l ≡ Threw v s q
Leaves l (Err (Aborted why)) q s = l ≡ AbortedBy (cause why) q
Leaves l (Err (CostLimit over)) q s = l ≡ Passed over q
Leaves l (Err Stuck) q s = l ≡ Lost q
Leaves l (Err NoMemory) q s = Unit {0}

-- how the call of a function of this access may end: a public one gives a response, nothing is thrown out of it, and it isn't stuck
abbrev pub MayEnd : Access → Result Tree Stop → Type 0
MayEnd access (Ok v) = access ≡ Public → IsResponse v
MayEnd access (Err (Thrown v)) = ⊥
MayEnd access (Err Stuck) = ⊥
MayEnd access (Err stop) = Unit {0}

-- how a call of a function of this access ends, by the end of its walk, by what it has spent and by the state on its layer
abbrev pub JudgedSo : Common → Access → Result Tree Stop → Cost5 → State → Ended → Type 0
JudgedSo common access end spent s e =
    (l : Limited Tree) (q : Purse) (node : NodeSeen) → Leaves l end q s → q.spent ≡ spent → call_ended common access node l ≡ Some (ended_so e node s)
