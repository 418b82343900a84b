-- What holds of nodes.
use Rattle.std.specs.Prelude.{◌≡◌, List}
use Rattle.cl_costs.specs.Schedules.{ScheduleSeen}
use Rattle.cl_meaning.specs.Trace.{Claim}
use Rattle.cl_file.specs.declared.entry.Entry.{Entry}
use Rattle.cl_tx.specs.Nodes.{NodeSeen, Stepped}
use Rattle.cl_tx.specs.Step.{Steps, costs_for}
use Rattle.cl_nodes.specs.Seen.{Seen}
use Rattle.cl_nodes.specs.Known.{IsNodeOf}
use Rattle.cl_nodes.specs.Traces.{IsTrace}

-- callers know one thing of the contracts of a node
abbrev pub OneNode : Type 0
OneNode = (n : Seen) (a b : NodeSeen) → IsNodeOf n a → IsNodeOf n b → a ≡ b

-- an entry that steps so has one trace
abbrev pub OneTrace : Type 0
OneTrace = (schedule : ScheduleSeen) (node : NodeSeen) (entry : Entry) (s : Stepped) (a b : List Claim) → Steps schedule node entry s →
    IsTrace (costs_for schedule node) node entry s.result.outcome a → IsTrace (costs_for schedule node) node entry s.result.outcome b → a ≡ b
