-- Entries one after another from the first node on, each with its step.
use Rattle.std.specs.Prelude.{◌≡◌, ◌+◌, ◌-◌, ◌≤◌, ℕ, get_or, nat_lt, Bool, true, false, List, [], ◌∷◌, ◌++◌, length, take, Ok}
use Rattle.std.specs.List.{All}
use Rattle.cl_c32.specs.declared.principal.Principal.{Principal}
use Rattle.cl_shapes.specs.declared.function.CostFn.{CostFn}
use Rattle.cl_costs.specs.Schedules.{ScheduleSeen}
use Rattle.cl_values.specs.Valid.{IsPrincipal}
use Rattle.cl_events.specs.State.{State, genesis}
use Rattle.cl_file.specs.Entries.{height_after}
use Rattle.cl_file.specs.declared.entry.Entry.{Entry}
use Rattle.cl_file.specs.Files.{FileSeen}
use Rattle.cl_tx.specs.declared.outcome.Outcome.{Outcome}
use Rattle.cl_tx.specs.declared.outcome.Outcome.TheVariants as outcome
use Rattle.cl_tx.specs.declared.outcome.TxResult.{TxResult}
use Rattle.cl_tx.specs.Nodes.{NodeSeen}
use Rattle.cl_tx.specs.Step.{AllStep, Commits, Runs, first_node, if_committed, schedule_of}
use Rattle.cl_node_sound.specs.Sound.{HasParts, FileHasParts}
use Rattle.cl_node_sound.specs.Told.{none_told, AreChargedWithin, AreNotStopped, AreTyped}
use Rattle.cl_nodes.specs.Seen.{Seen}
use Rattle.cl_nodes.specs.Known.{IsNodeOf}
use Rattle.cl_nodes.specs.Steps.{Makes}
use Rattle.cl_report.specs.Lines.{lines_of, report_from}
use Rattle.cl_lines.specs.StateLines.{IsStateText}
use Rattle.cl_entries.specs.declared.entries.End.{End}
use Rattle.cl_entries.specs.declared.entries.End.TheVariants.{Good, Bad, Aborted, Refused}
use Rattle.cl_entries.specs.declared.status.Status.TheVariants.{Done}
use Rattle.cl_entries.specs.declared.status.Step.{Step}
use Rattle.cl_entries.specs.Scripts.{Script, bytes_of, events_of}

-- ---- the script of a transaction file

-- the step of an entry with this number and result: its events, where it was committed, and its lines
abbrev pub step_of : ℕ → Entry → TxResult → Step
step_of number entry r = record { events = if_committed r.outcome r.events; bytes = lines_of number entry r }

-- those of entries one after another, numbered from a number on
abbrev pub steps_from : ℕ → List Entry → List TxResult → List Step
steps_from number [] rs = []
steps_from number (e ∷ es) [] = []
steps_from number (e ∷ es) (r ∷ rs) = step_of number e r ∷ steps_from (number + 1) es rs

-- the step of a state, where its lines are asked for
abbrev pub AreStateSteps : Bool → State → List Step → Type 0
AreStateSteps true s steps = (text : List ℕ) × IsStateText s text × (steps ≡ record { events = []; bytes = text } ∷ [])
AreStateSteps false s steps = steps ≡ []

-- What holds of the results of each file's entries: none is charged above the bound that was printed last for its function, nor
-- stopped by a limit that is no less; and what it gives is of the type that was printed last, and no longer than that allows.
pub record AreSound (entries : List Entry) (results : List TxResult) : Type 0 where
  pub within : AreChargedWithin none_told entries results
  pub not_stopped : AreNotStopped none_told entries results
  pub typed : AreTyped none_told entries results

-- the steps of all entries of a file, and behind them that of the state after them where it is asked for; good, whatever the results
pub record IsRun (table : List CostFn) (file : FileSeen) (state : Bool) (script : Script) : Type 0 where
  pub results : List TxResult
  pub after : NodeSeen
  pub runs : Runs (schedule_of table file) file results after
  pub sound : AreSound file.entries results
  pub state_steps : List Step
  pub are_state : AreStateSteps state after.state state_steps
  pub is : script ≡ record { steps = steps_from 0 file.entries results ++ state_steps; end = Ok Done }

-- ---- one entry

-- how an entry ended
abbrev pub end_of : Outcome → End
end_of outcome.Moved = Good
end_of outcome.Done = Good
end_of (outcome.Good v) = Good
end_of (outcome.Bad v) = Bad
end_of (outcome.Plain v) = Good
end_of (outcome.Aborted why) = Aborted
end_of (outcome.Refused why) = Refused

-- the entry with this number ended so, with these lines
pub record Ends (schedule : ScheduleSeen) (number : ℕ) (before : Seen) (entry : Entry) (after : Seen) (end : End) (text : List ℕ) : Type 0 where
  pub parts : HasParts entry
  pub result : TxResult
  pub makes : Makes schedule before entry result after
  pub end_is : end ≡ end_of result.outcome
  pub lines_are : text ≡ lines_of number entry result

-- the entry with this number was made, and this is its step
pub record IsStepOf (schedule : ScheduleSeen) (before : Seen) (number : ℕ) (entry : Entry) (step : Step) (after : Seen) : Type 0 where
  pub result : TxResult
  pub makes : Makes schedule before entry result after
  pub is : step ≡ step_of number entry result

-- ---- the entry at a place of a file

-- its block doesn't begin below this height
abbrev pub MayFollow : ℕ → List Entry → ℕ → Type 0
MayFollow height entries at = (e : Entry) → e ≡ get_or entries at e → height ≤ height_after height e

-- it has parts within the limits
abbrev pub HasPartsAt : List Entry → ℕ → Type 0
HasPartsAt entries at = (e : Entry) → e ≡ get_or entries at e → HasParts e

-- it was made, and this is its step
abbrev pub IsStepAt : ScheduleSeen → Seen → List Entry → ℕ → Step → Seen → Type 0
IsStepAt schedule before entries at step after = (e : Entry) → e ≡ get_or entries at e → IsStepOf schedule before at e step after

-- ---- so many first entries

-- before all entries, with these holders of STX
abbrev pub IsFirst : List (Principal × ℕ) → Seen → Type 0
IsFirst holders n = n ≡ record { state = genesis holders; contracts = []; height = 0 }

-- from these holders on, the entries have these results, and this is the node after them
pub record Reaches (schedule : ScheduleSeen) (holders : List (Principal × ℕ)) (entries : List Entry) (results : List TxResult) (after : Seen) : Type 0 where
  pub node : NodeSeen
  pub is_node : IsNodeOf after node
  pub are_principals : All (λ (h : Principal × ℕ). IsPrincipal h.0) holders
  pub parts : All HasParts entries
  pub steps : AllStep schedule (first_node holders) entries results node

-- what contracts see of a file while the steps of its entries are done
pub record Progress : Type 0 where
  pub file : FileSeen
  pub schedule : ScheduleSeen
  pub state : Bool
  pub node : Seen
  pub done : ℕ

-- the state has one step where its lines are asked for
abbrev pub state_count : Bool → ℕ
state_count true = 1
state_count false = 0

-- how many steps are left
abbrev pub left_of : Progress → ℕ
left_of p = (length p.file.entries + state_count p.state) - p.done

-- whether the step of the state is done
abbrev pub is_state_done : Progress → Bool
is_state_done p = nat_lt (length p.file.entries) p.done

-- of a table, a file and whether the state is asked for, these steps are done
pub record IsRunning (table : List CostFn) (file : FileSeen) (state : Bool) (steps : List Step) (p : Progress) : Type 0 where
  pub file_is : p.file ≡ file
  pub schedule_is : p.schedule ≡ schedule_of table file
  pub state_is : p.state ≡ state
  pub within : p.done ≤ length p.file.entries + state_count p.state
  pub results : List TxResult
  pub reaches : Reaches p.schedule p.file.genesis (take p.done p.file.entries) results p.node
  pub state_steps : List Step
  pub are_state : AreStateSteps (is_state_done p) p.node.state state_steps
  pub are : steps ≡ steps_from 0 (take p.done p.file.entries) results ++ state_steps

-- of some file, some steps are done
pub record IsOnTheWay (p : Progress) : Type 0 where
  pub table : List CostFn
  pub file : FileSeen
  pub state : Bool
  pub steps : List Step
  pub running : IsRunning table file state steps p

-- ---- laws

-- where no step is left, the steps that are done are the script
abbrev pub LastEnds : Type 0
LastEnds =
    (table : List CostFn) (file : FileSeen) (state : Bool) (steps : List Step) (p : Progress) → IsRunning table file state steps p → left_of p ≡ 0 →
    IsRun table file state (record { steps = steps; end = Ok Done })

-- the steps that are done are the first ones of each script of the file
abbrev pub FirstAreDone : Type 0
FirstAreDone =
    (table : List CostFn) (file : FileSeen) (state : Bool) (steps : List Step) (p : Progress) (script : Script) → IsRunning table file state steps p → IsRun table file state script →
    (more : List Step) × (script.steps ≡ steps ++ more)

-- a file has one script
abbrev pub OneRunScript : Type 0
OneRunScript = (table : List CostFn) (file : FileSeen) (state : Bool) (a b : Script) → IsRun table file state a → IsRun table file state b → a ≡ b

-- its events are those that the file commits
abbrev pub RunCommits : Type 0
RunCommits = (table : List CostFn) (file : FileSeen) (state : Bool) (script : Script) → IsRun table file state script → Commits (schedule_of table file) file (events_of script.steps)

-- its bytes are the report of the entries, and behind them the state's lines where they are asked for
abbrev pub RunWrites : Type 0
RunWrites = (table : List CostFn) (file : FileSeen) (state : Bool) (script : Script) (is : IsRun table file state script) → bytes_of script.steps ≡ report_from 0 file.entries is.results ++ bytes_of is.state_steps

-- what holds of the results of a file's entries
abbrev pub RunsAreSound : Type 0
RunsAreSound = (schedule : ScheduleSeen) (file : FileSeen) (results : List TxResult) (after : NodeSeen) → FileHasParts file → Runs schedule file results after → AreSound file.entries results
