-- What the top call promises, for what its files hold, its sink has written and its listeners have heard, where they tell it.
use Rattle.std.specs.Prelude.{◌≡◌, ◌⊎◌, ◌≤◌, ℕ, Bool, List, [], ◌++◌, take, Option, Some, None, Result, Ok, Err}
use Rattle.cl_ports.specs.Files.{Held}
use Rattle.cl_ports.specs.Growth.{Rose, GrowsPart}
use Rattle.cl_text.specs.Parsed.{Reading, Parses}
use Rattle.cl_events.specs.declared.event.Event.{Event}
use Rattle.cl_listeners.specs.Hearing.{Both, ToldInTurn}
use Rattle.cl_file.specs.declared.entry.Entry.{Entry}
use Rattle.cl_file.specs.Files.{FileSeen}
use Rattle.cl_tx.specs.declared.outcome.TxResult.{TxResult}
use Rattle.cl_tx.specs.Step.{committed}
use Rattle.cl_report.specs.Lines.{report_from}
use Rattle.cl_shapes.specs.declared.function.CostFn.{CostFn}
use Rattle.cl_words.specs.Argument.{Arguments, Spell}
use Rattle.cl_words.specs.Words.{Command, Call, Run, Check, Value, Wire, Gen, Trace, Audit, Root, Prove, Verify}
use Rattle.cl_entries.specs.declared.status.Status.{Status}
use Rattle.cl_entries.specs.declared.status.Status.TheVariants.{Done, Usage, BadFile, Refused, NotGood, BadWord}
use Rattle.cl_entries.specs.Scripts.{Script, DoesAll, DoesPart, IsDoneTo, bytes_of, events_of, end_number, number_of, script_of}
use Rattle.cl_entries.specs.declared.status.Reply.{Reply}
use Rattle.cl_entries.specs.declared.status.Step.{Step}
use Rattle.cl_entries.specs.declared.status.Stop.{Stop}
use Rattle.cl_entries.specs.declared.status.Stop.TheVariants.{ReadFailed, WriteFailed}
use Rattle.cl_entries.specs.Entries.{IsRun, IsRunning, RunCommits, left_of as left_of_run}
use Rattle.cl_traces.specs.Traces.{IsTracing, left_of as left_of_traces}
use Rattle.cl_replies.specs.Inputs.{Inputs, RunInputs, TraceInputs}
use Rattle.cl_replies.specs.Spelling.{value_reply, verify_reply, wire_reply}
use Rattle.cl_replies.specs.Reports.{IsReply, IsScript}
use Rattle.cl_app.specs.declared.steps.Steps.{Steps}
use Rattle.cl_app.specs.declared.steps.Steps.TheVariants.{Whole, Entries, Traces}
use Rattle.cl_app.specs.Reading.{AreInputs, CommandReads}

-- ---- the script of a command

-- that of its inputs, by what is held
pub record HasScript (command : Option Command) (files : Held) (script : Script) : Type 0 where
  pub asked : List (List ℕ)
  pub inputs : Inputs
  pub read : CommandReads command files asked inputs
  pub is : IsScript inputs script

-- each command and what is held have one
abbrev pub EachHasScript : Type 0
EachHasScript = (command : Option Command) (files : Held) → (script : Script) × HasScript command files script

abbrev pub OneScript : Type 0
OneScript = (command : Option Command) (files : Held) (a b : Script) → HasScript command files a → HasScript command files b → a ≡ b

-- the inputs of a command are one by what is held
abbrev pub OneInputs : Type 0
OneInputs = (command : Option Command) (files : Held) (m n : List (List ℕ)) (a b : Inputs) → CommandReads command files m a → CommandReads command files n b → a ≡ b

-- the inputs have one script, however they were read
abbrev pub OneScriptOfInputs : Type 0
OneScriptOfInputs = (inputs : Inputs) (a b : Script) → IsScript inputs a → IsScript inputs b → a ≡ b

-- ---- what was done

-- all steps of the script were done, and this is its status
pub record DoesCommand (command : Option Command) (held : Option Held) (before now : Option (List ℕ)) (were are : Both) (status : ℕ) : Type 0 where
  pub inputs : Inputs
  pub are_inputs : AreInputs command held inputs
  pub script : Script
  pub is_script : IsScript inputs script
  pub does : DoesAll script.steps before now were are
  pub ends : status ≡ end_number script.end

-- all steps of the script of these inputs were done, and it ends so
pub record DoesInputs (inputs : Inputs) (status : Status) (before now : Option (List ℕ)) (were are : Both) : Type 0 where
  pub script : Script
  pub is_script : IsScript inputs script
  pub ends : script.end ≡ Ok status
  pub does : DoesAll script.steps before now were are

-- where it is told what is held, the script was done up to some point
pub record DoesFirst (command : Option Command) (held : Option Held) (before now : Option (List ℕ)) (were are : Both) : Type 0 where
  pub told : (files : Held) (script : Script) → held ≡ Some files → HasScript command files script → DoesPart script.steps before now were are

-- ---- the statuses of a command that was done to its end

abbrev pub CallEnds : Arguments → Status → Type 0
CallEnds (Err outcome) status = status ≡ BadWord
CallEnds (Ok args) status = (status ≡ Done) ⊎ (status ≡ BadFile) ⊎ (status ≡ Refused) ⊎ (status ≡ NotGood)

abbrev pub EndsWith : Option Command → Status → Type 0
EndsWith None status = status ≡ Usage
EndsWith (Some (Call file function words version)) status = (args : Arguments) × Spell words args × CallEnds args status
EndsWith (Some (Run costs file state)) status = (status ≡ Done) ⊎ (status ≡ BadFile)
EndsWith (Some (Check costs address paths version)) status = (status ≡ Done) ⊎ (status ≡ BadFile) ⊎ (status ≡ Refused)
EndsWith (Some (Value word)) status = status ≡ (value_reply word).status
EndsWith (Some (Wire word)) status = (outcome : Reading) × Parses word outcome × (status ≡ (wire_reply outcome).status)
EndsWith (Some (Gen seed count)) status = status ≡ Done
EndsWith (Some (Trace costs file)) status = (status ≡ Done) ⊎ (status ≡ BadFile)
EndsWith (Some (Audit costs file trace report)) status = (status ≡ Done) ⊎ (status ≡ BadFile) ⊎ (status ≡ Refused)
EndsWith (Some (Root costs file)) status = (status ≡ Done) ⊎ (status ≡ BadFile)
EndsWith (Some (Prove costs file number)) status = (status ≡ Done) ⊎ (status ≡ BadFile) ⊎ (status ≡ BadWord)
EndsWith (Some (Verify root key value sides)) status = status ≡ (verify_reply root key value sides).status

-- this number is of one of them
abbrev pub IsOwnStatus : Option Command → ℕ → Type 0
IsOwnStatus command number = (status : Status) × EndsWith command status × (number ≡ number_of status)

-- ---- what follows of a script that was done up to some point

-- the bytes that were written are a first part of its bytes
abbrev pub WritesPart : Type 0
WritesPart = (script : Script) (before now : Option (List ℕ)) (were are : Both) → DoesPart script.steps before now were are → GrowsPart before now (bytes_of script.steps)

-- the events that were told are a first part of its events
pub record ToldPart (events : List Event) (were are : Both) : Type 0 where
  pub front : List Event
  pub back : List Event
  pub parts : events ≡ front ++ back
  pub told : ToldInTurn front were are

abbrev pub TellsPart : Type 0
TellsPart = (script : Script) (before now : Option (List ℕ)) (were are : Both) → DoesPart script.steps before now were are → ToldPart (events_of script.steps) were are

-- all of it is up to its last point
abbrev pub AllIsPart : Type 0
AllIsPart = (script : Script) (before now : Option (List ℕ)) (were are : Both) → DoesAll script.steps before now were are → DoesPart script.steps before now were are

-- the events of the script of `run` are those that its file commits
abbrev pub RunTells : Type 0
RunTells = RunCommits

-- the events of so many first entries were told, and no byte was written but of their lines
pub record IsOfFirst (number : ℕ) (entries : List Entry) (results : List TxResult) (events : List Event) (bytes : List ℕ) : Type 0 where
  pub count : ℕ
  pub told : events ≡ committed (take count results)
  pub rest : List ℕ
  pub written : bytes ++ rest ≡ report_from number (take count entries) (take count results)

-- the events of all entries were told, and no byte was written but of their lines and of what is behind them
pub record IsOfAll (number : ℕ) (entries : List Entry) (results : List TxResult) (behind : List ℕ) (events : List Event) (bytes : List ℕ) : Type 0 where
  pub told : events ≡ committed results
  pub rest : List ℕ
  pub written : bytes ++ rest ≡ report_from number entries results ++ behind

-- At each point of the script of `run` it is one or the other: so nothing is written of an entry before its events are told.
abbrev pub RunInTurn : Type 0
RunInTurn =
    (table : List CostFn) (file : FileSeen) (state : Bool) (script : Script) (is : IsRun table file state script) (events : List Event) (bytes : List ℕ) →
    IsDoneTo script.steps events bytes → IsOfFirst 0 file.entries is.results events bytes ⊎ IsOfAll 0 file.entries is.results (bytes_of is.state_steps) events bytes

-- ---- what the code has still to do

-- the inputs aren't those of `run` or `trace`, which have a step for each entry
abbrev pub HasReply : Inputs → Type 0
HasReply (RunInputs table file state) = ⊥
HasReply (TraceInputs table file) = ⊥
HasReply inputs = Unit {0}

-- of these inputs, these steps are done
abbrev pub IsAt : Inputs → List Step → Steps → Type 0
IsAt inputs steps (Whole (Some text) status) = (steps ≡ []) × IsReply inputs (record { text = text; status = status })
IsAt inputs steps (Whole None status) = (reply : Reply) × IsReply inputs reply × (record { steps = steps; end = Ok status } ≡ script_of reply)
IsAt inputs steps (Entries p) = (table : List CostFn) × (file : FileSeen) × (state : Bool) × (inputs ≡ RunInputs table file state) × IsRunning table file state steps p
IsAt inputs steps (Traces p) = (table : List CostFn) × (file : FileSeen) × (inputs ≡ TraceInputs table file) × IsTracing table file steps p

-- of some inputs, some steps are done
abbrev pub IsSomewhere : Steps → Type 0
IsSomewhere s = (inputs : Inputs) × (steps : List Step) × IsAt inputs steps s

abbrev pub one_if_some : Option (List ℕ) → ℕ
one_if_some None = 0
one_if_some (Some text) = 1

-- how many steps are left
abbrev pub left_of : Steps → ℕ
left_of (Whole text status) = one_if_some text
left_of (Entries p) = left_of_run p
left_of (Traces p) = left_of_traces p

-- how the command ends once none is left
abbrev pub status_of : Steps → Status
status_of (Whole text status) = status
status_of (Entries p) = Done
status_of (Traces p) = Done

-- ---- counts of faults

-- the files' count of faults rose where a read failed, and else it stayed
abbrev pub CountsReads : ℕ → ℕ → Result Status Stop → Type 0
CountsReads before now (Err ReadFailed) = (before ≤ now) × Rose before now
CountsReads before now r = now ≡ before

-- the sink's count of faults rose where a write failed, and else it stayed
abbrev pub CountsWrites : ℕ → ℕ → Result Status Stop → Type 0
CountsWrites before now (Err WriteFailed) = (before ≤ now) × Rose before now
CountsWrites before now r = now ≡ before
