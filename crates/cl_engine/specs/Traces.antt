-- The values that the nodes of an entry's evaluation give.
use Rattle.std.specs.Prelude.{List, map, Result, Ok, Err}
use Rattle.cl_sexpr.specs.declared.sexpr.Span.{Span}
use Rattle.cl_values.specs.Tree.{Tree}
use Rattle.cl_costs.specs.Schedules.{ScheduleSeen}
use Rattle.cl_types.specs.declared.fault.NoMemory.{NoMemory}
use Rattle.cl_code.specs.Watched.{GrewBy}
use Rattle.cl_meaning.specs.Limits.{Costs}
use Rattle.cl_meaning.specs.Trace.{Claim}
use Rattle.cl_frames.specs.Watching.{GrewByStart, pair_of}
use Rattle.cl_frames.specs.Watching as watching
use Rattle.cl_file.specs.declared.entry.Entry.{Entry}
use Rattle.cl_tx.specs.declared.outcome.Outcome.{Outcome}
use Rattle.cl_tx.specs.declared.outcome.TxResult.{TxResult}
use Rattle.cl_tx.specs.Nodes.{NodeSeen, Stepped}
use Rattle.cl_tx.specs.Step.{Steps, costs_for}
use Rattle.cl_nodes.specs.Seen.{Seen}
use Rattle.cl_nodes.specs.Known.{IsNodeOf}
use Rattle.cl_nodes.specs.Traces.{IsRunTraceAs, IsTraceAs}

-- spans, each with the value of the node that has it, in the order in which the nodes end
abbrev pub Trace : Type 0
Trace = List (Span × Tree)

-- claims as these
abbrev pub shown : List Claim → Trace
shown claims = map pair_of claims

abbrev pub IsRunTrace : Costs → NodeSeen → Entry → Trace → Type 0
IsRunTrace costs node entry found = IsRunTraceAs shown costs node entry found

-- the trace of an entry by what becomes of it
abbrev pub IsTrace : Costs → NodeSeen → Entry → Outcome → Trace → Type 0
IsTrace costs node entry outcome found = IsTraceAs shown costs node entry outcome found

-- ---- what a watch has seen

-- what was seen grew by all of a trace; after want of memory by a prefix of it
abbrev pub SeesAll : {A : Type 0} → watching.Seen → watching.Seen → Trace → Result A NoMemory → Type 0
SeesAll seen now all (Ok a) = GrewBy seen now all
SeesAll seen now all (Err e) = GrewByStart seen now all

-- what was seen grew by the trace of an entry with this result
pub record SeesTrace (schedule : ScheduleSeen) (before : Seen) (entry : Entry) (result : TxResult) (seen now : watching.Seen) : Type 0 where
  pub from : NodeSeen
  pub is_from : IsNodeOf before from
  pub found : Trace
  pub is_trace : IsTrace (costs_for schedule from) from entry result.outcome found
  pub grew : GrewBy seen now found

-- what was seen grew by a prefix of the trace that the entry has, whatever its outcome would be
abbrev pub SeesPart : ScheduleSeen → Seen → Entry → watching.Seen → watching.Seen → Type 0
SeesPart schedule before entry seen now =
    (from : NodeSeen) → IsNodeOf before from → (s : Stepped) → Steps schedule from entry s →
    (found : Trace) → IsTrace (costs_for schedule from) from entry s.result.outcome found → GrewByStart seen now found

-- after want of memory it may be a prefix
abbrev pub Sees : ScheduleSeen → Seen → Entry → Result TxResult NoMemory → watching.Seen → watching.Seen → Type 0
Sees schedule before entry (Ok r) seen now = SeesTrace schedule before entry r seen now
Sees schedule before entry (Err e) seen now = SeesPart schedule before entry seen now
