-- The traces of a file's entries, one after another, and the script that writes them.
use Rattle.std.specs.Prelude.{◌≡◌, ◌+◌, ◌-◌, ◌≤◌, ℕ, get_or, List, [], ◌∷◌, ◌++◌, length, take, Ok}
use Rattle.std.specs.List.{All}
use Rattle.cl_c32.specs.declared.principal.Principal.{Principal}
use Rattle.cl_shapes.specs.declared.function.CostFn.{CostFn}
use Rattle.cl_costs.specs.Schedules.{ScheduleSeen}
use Rattle.cl_values.specs.Valid.{IsPrincipal}
use Rattle.cl_file.specs.declared.entry.Entry.{Entry}
use Rattle.cl_file.specs.Files.{FileSeen}
use Rattle.cl_meaning.specs.Limits.{Costs}
use Rattle.cl_tx.specs.declared.outcome.Outcome.{Outcome}
use Rattle.cl_tx.specs.declared.outcome.TxResult.{TxResult}
use Rattle.cl_tx.specs.Nodes.{NodeSeen, Stepped}
use Rattle.cl_tx.specs.Step.{Steps, costs_for, first_node, schedule_of}
use Rattle.cl_node_sound.specs.Sound.{HasParts, FileHasParts}
use Rattle.cl_nodes.specs.Seen.{Seen}
use Rattle.cl_nodes.specs.Known.{IsNodeOf}
use Rattle.cl_nodes.specs.Steps.{Makes}
use Rattle.cl_engine.specs.Traces.{Trace, IsTrace}
use Rattle.cl_entries.specs.declared.status.Status.TheVariants.{Done}
use Rattle.cl_entries.specs.declared.status.Step.{Step}
use Rattle.cl_entries.specs.Scripts.{Script}
use Rattle.cl_traces.specs.Lines.{trace_text}

-- ---- the script of a transaction file

-- the traces of entries one after another, each at the node that the ones before left
abbrev pub AllTraced : ScheduleSeen → NodeSeen → List Entry → List Trace → NodeSeen → Type 0
AllTraced schedule node [] traces after = (traces ≡ []) × (after ≡ node)
AllTraced schedule node (e ∷ es) traces after =
    (s : Stepped) × (trace : Trace) × (more : List Trace) × Steps schedule node e s × IsTrace (costs_for schedule node) node e s.result.outcome trace × AllTraced schedule s.node es more after × (traces ≡ trace ∷ more)

-- the step of the entry with this number: the lines of its trace, and no event
abbrev pub trace_step : ℕ → Trace → Step
trace_step number trace = record { events = []; bytes = trace_text number trace }

-- those of entries one after another, numbered from a number on
abbrev pub trace_steps : ℕ → List Trace → List Step
trace_steps number [] = []
trace_steps number (trace ∷ traces) = trace_step number trace ∷ trace_steps (number + 1) traces

-- the steps of all entries of a file; good, whatever the results
pub record IsTraceScript (table : List CostFn) (file : FileSeen) (script : Script) : Type 0 where
  pub traces : List Trace
  pub after : NodeSeen
  pub traced : AllTraced (schedule_of table file) (first_node file.genesis) file.entries traces after
  pub is : script ≡ record { steps = trace_steps 0 traces; end = Ok Done }

-- ---- one entry

-- the entry was made, and has this trace
pub record HasTrace (schedule : ScheduleSeen) (before : Seen) (entry : Entry) (trace : Trace) (after : Seen) : Type 0 where
  pub result : TxResult
  pub makes : Makes schedule before entry result after
  pub from : NodeSeen
  pub is_from : IsNodeOf before from
  pub is_trace : IsTrace (costs_for schedule from) from entry result.outcome trace

-- the entry with this number was made, and this is its step
pub record IsTraceStep (schedule : ScheduleSeen) (before : Seen) (number : ℕ) (entry : Entry) (step : Step) (after : Seen) : Type 0 where
  pub trace : Trace
  pub has : HasTrace schedule before entry trace after
  pub is : step ≡ trace_step number trace

-- the entry at a place of a file was made, and this is its step
abbrev pub IsTraceStepAt : ScheduleSeen → Seen → List Entry → ℕ → Step → Seen → Type 0
IsTraceStepAt schedule before entries at step after = (e : Entry) → e ≡ get_or entries at e → IsTraceStep schedule before at e step after

-- ---- so many first entries

-- from these holders on, the entries have these traces, and this is the node after them
pub record ReachesTraced (schedule : ScheduleSeen) (holders : List (Principal × ℕ)) (entries : List Entry) (traces : List Trace) (after : Seen) : Type 0 where
  pub node : NodeSeen
  pub is_node : IsNodeOf after node
  pub are_principals : All (λ (h : Principal × ℕ). IsPrincipal h.0) holders
  pub parts : All HasParts entries
  pub traced : AllTraced schedule (first_node holders) entries traces node

-- what contracts see of a file while the traces of its entries are written
pub record Tracing : Type 0 where
  pub file : FileSeen
  pub schedule : ScheduleSeen
  pub node : Seen
  pub done : ℕ

-- how many steps are left
abbrev pub left_of : Tracing → ℕ
left_of p = length p.file.entries - p.done

-- of a table and a file, these steps are done
pub record IsTracing (table : List CostFn) (file : FileSeen) (steps : List Step) (p : Tracing) : Type 0 where
  pub file_is : p.file ≡ file
  pub schedule_is : p.schedule ≡ schedule_of table file
  pub within : p.done ≤ length p.file.entries
  pub traces : List Trace
  pub reaches : ReachesTraced p.schedule p.file.genesis (take p.done p.file.entries) traces p.node
  pub are : steps ≡ trace_steps 0 traces

-- of some file, some steps are done
pub record IsSomeTracing (p : Tracing) : Type 0 where
  pub table : List CostFn
  pub file : FileSeen
  pub steps : List Step
  pub tracing : IsTracing table file steps p

-- ---- laws

-- an entry has one trace, by what becomes of it
abbrev pub OneTrace : Type 0
OneTrace = (costs : Costs) (node : NodeSeen) (entry : Entry) (outcome : Outcome) (a b : Trace) → IsTrace costs node entry outcome a → IsTrace costs node entry outcome b → a ≡ b

-- where no step is left, the steps that are done are the script
abbrev pub LastTraceEnds : Type 0
LastTraceEnds = (table : List CostFn) (file : FileSeen) (steps : List Step) (p : Tracing) → IsTracing table file steps p → left_of p ≡ 0 → IsTraceScript table file (record { steps = steps; end = Ok Done })

-- the steps that are done are the first ones of each script of the file
abbrev pub FirstTracesAreDone : Type 0
FirstTracesAreDone = (table : List CostFn) (file : FileSeen) (steps : List Step) (p : Tracing) (script : Script) → IsTracing table file steps p → IsTraceScript table file script → (more : List Step) × (script.steps ≡ steps ++ more)

-- a file has one script
abbrev pub OneTraceScript : Type 0
OneTraceScript = (table : List CostFn) (file : FileSeen) (a b : Script) → IsTraceScript table file a → IsTraceScript table file b → a ≡ b

-- each file whose parts are within the limits has one
abbrev pub EachHasTraceScript : Type 0
EachHasTraceScript = (table : List CostFn) (file : FileSeen) → FileHasParts file → (script : Script) × IsTraceScript table file script
