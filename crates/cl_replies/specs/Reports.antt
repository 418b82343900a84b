-- The reports of `call`, `gen`, `root` and `prove`; and the script of each command for its inputs.
use Rattle.std.specs.Prelude.{◌≡◌, ◌≢◌, ◌≤◌, ℕ, Bool, true, false, List, [], ◌∷◌, ◌++◌, length, replicate, codes, Option, Some, Err}
use Rattle.std.specs.List.{flat_map}
use Rattle.std.specs.declared.cmp.Ordering.TheVariants.{Less}
use Rattle.hex.specs.Hex.{encode_lower}
use Rattle.cl_c32.specs.Address.{AddressParts}
use Rattle.cl_shapes.specs.declared.function.CostFn.{CostFn}
use Rattle.cl_costs.specs.Tables.{function_of, unit_table}
use Rattle.cl_costs.specs.Schedules.{always}
use Rattle.cl_maps.specs.Maps.{key_cmp}
use Rattle.cl_values.specs.Tree.{Tree}
use Rattle.cl_text.specs.Parsed.{Reading, Parses}
use Rattle.cl_forms.specs.Texts.{Text}
use Rattle.cl_post.specs.declared.condition.Mode.TheVariants.{Allow}
use Rattle.cl_events.specs.State.{State}
use Rattle.cl_tables.specs.declared.row.StateRow.{StateRow}
use Rattle.cl_tables.specs.StateRows.{IsRow}
use Rattle.cl_file.specs.Entries.{no_limit}
use Rattle.cl_file.specs.declared.entry.Common.{Common}
use Rattle.cl_file.specs.declared.entry.Entry.{Entry}
use Rattle.cl_file.specs.declared.entry.Entry.TheVariants.{Deploy, Call}
use Rattle.cl_file.specs.Files.{FileSeen}
use Rattle.cl_tx.specs.declared.outcome.TxResult.{TxResult}
use Rattle.cl_tx.specs.Nodes.{NodeSeen, contract_of}
use Rattle.cl_tx.specs.Step.{Runs, schedule_of}
use Rattle.cl_workload.specs.Summary.{IsSummary}
use Rattle.cl_lines.specs.RowLines.{row_line}
use Rattle.cl_lines.specs.StateLines.{IsStateText}
use Rattle.cl_report.specs.Lines.{report_from}
use Rattle.cl_root.specs.declared.side.Side.{Side}
use Rattle.cl_root.specs.RowBytes.{key_bytes, value_bytes}
use Rattle.cl_root.specs.HashTree.{IsRoot}
use Rattle.cl_root.specs.Paths.{IsPath}
use Rattle.cl_entries.specs.declared.entries.End.{End}
use Rattle.cl_entries.specs.declared.entries.End.TheVariants.{Good, Aborted, Refused as RefusedEntry}
use Rattle.cl_entries.specs.declared.status.Reply.{Reply}
use Rattle.cl_entries.specs.declared.status.Status.{Status}
use Rattle.cl_entries.specs.declared.status.Status.TheVariants.{Done, Usage, Refused, NotGood, BadWord}
use Rattle.cl_entries.specs.declared.status.Stop.TheVariants.{ReadFailed}
use Rattle.cl_entries.specs.Entries.{end_of, AreSound, IsRun}
use Rattle.cl_entries.specs.Scripts.{Script, script_of}
use Rattle.cl_traces.specs.Traces.{IsTraceScript}
use Rattle.cl_audit_reply.specs.Verdicts.{IsAuditReply}
use Rattle.cl_replies.specs.Inputs.{Inputs, NoCommand, MissingFile, BadFile, BadArgument, CallInputs, RunInputs, CheckInputs, ValueInputs, WireInputs, GenInputs, TraceInputs, AuditInputs, RootInputs, ProveInputs, VerifyInputs, bad_file_reply}
use Rattle.cl_replies.specs.Spelling.{no_value_reply, value_reply, wire_reply, verify_reply}
use Rattle.cl_replies.specs.Checked.{IsReport}

-- ---- `call`: a source is deployed, and then one of its functions is called

-- SP000000000000000000002Q6VF78
abbrev pub home : AddressParts
home = record { version = 22; hash = replicate 20 0 }

-- no limit is stated, and no condition
abbrev pub sent_from_home : Common
sent_from_home = record { sender = home; limit = no_limit; mode = Allow; conditions = [] }

-- a text is deployed as `main`
abbrev pub deployment : Text → Entry
deployment text = Deploy sent_from_home (codes "main") text.bytes text.version

-- a function of that contract is called
abbrev pub call : List ℕ → List Tree → Entry
call function args = Call sent_from_home (contract_of home (codes "main")) function args

-- a value and an ok are good; an err, an abort and a refusal aren't
abbrev pub call_status : End → Status
call_status Good = Done
call_status end = NotGood

-- by how the deployment ended, and then by how the call did
abbrev pub status_of : End → End → Status
status_of RefusedEntry called = Refused
status_of Aborted called = NotGood
status_of deployed called = call_status called

-- the lines of the deployment, and behind them those of the call unless the deployment is refused
abbrev pub lines_by : End → List ℕ → List ℕ → List ℕ
lines_by RefusedEntry front back = front
lines_by deployed front back = front ++ back

abbrev pub called_reply : Entry → Entry → TxResult → TxResult → Reply
called_reply first second deployed called = record {
  text = lines_by (end_of deployed.outcome) (report_from 0 (first ∷ []) (deployed ∷ [])) (report_from 1 (second ∷ []) (called ∷ []));
  status = status_of (end_of deployed.outcome) (end_of called.outcome);
}

-- a file of these entries alone
abbrev pub file_of : List Entry → FileSeen
file_of entries = record { genesis = []; epochs = []; entries = entries }

-- the report of two entries under the unit table, of which the first is a deployment
pub record IsReportOf (first second : Entry) (reply : Reply) : Type 0 where
  pub deployed : TxResult
  pub called : TxResult
  pub after : NodeSeen
  pub runs : Runs (always unit_table) (file_of (first ∷ second ∷ [])) (deployed ∷ called ∷ []) after
  pub sound : AreSound (first ∷ second ∷ []) (deployed ∷ called ∷ [])
  pub is : reply ≡ called_reply first second deployed called

-- the reply for a text, a function and its arguments
abbrev pub IsCalled : Text → List ℕ → List Tree → Reply → Type 0
IsCalled text function args = IsReportOf (deployment text) (call function args)

-- ---- `gen`

-- the reply for a seed and a number of calls
pub record IsGenerated (seed count : ℕ) (reply : Reply) : Type 0 where
  pub line : List ℕ
  pub summary : IsSummary seed count line
  pub is : reply ≡ record { text = line; status = Done }

-- ---- `root` and `prove`: the state after the entries of a file

abbrev pub hex_text : List ℕ → List ℕ
hex_text bytes = codes "0x" ++ encode_lower bytes

abbrev pub root_line : List ℕ → List ℕ
root_line digest = codes "root " ++ (hex_text digest ++ codes "\n")

-- the state after a file's entries, and its root
pub record HasRoot (table : List CostFn) (file : FileSeen) (state : State) (digest : List ℕ) : Type 0 where
  pub results : List TxResult
  pub after : NodeSeen
  pub runs : Runs (schedule_of table file) file results after
  pub state_is : state ≡ after.state
  pub is_root : IsRoot digest state

-- the reply to `root`
pub record IsRootReply (table : List CostFn) (file : FileSeen) (reply : Reply) : Type 0 where
  pub state : State
  pub digest : List ℕ
  pub has_root : HasRoot table file state digest
  pub is : reply ≡ record { text = root_line digest; status = Done }

abbrev pub row_text : StateRow → List ℕ
row_text row = codes "row " ++ (hex_text (key_bytes row) ++ (codes " " ++ (hex_text (value_bytes row) ++ codes "\n")))

abbrev pub side_name : Bool → List ℕ
side_name true = codes "left "
side_name false = codes "right "

abbrev pub side_line : Side → List ℕ
side_line side = side_name side.left ++ (hex_text side.digest ++ codes "\n")

-- of the rows of a state with one line, that with the least key bytes
pub record IsLeastRow (state : State) (line : List ℕ) (row : StateRow) : Type 0 where
  pub there : IsRow state row
  pub line_is : row_line row ≡ line
  pub least : (other : StateRow) → IsRow state other → row_line other ≡ line → key_cmp (key_bytes other) (key_bytes row) ≢ Less

-- the row of the line with this number among the lines of a state, counted from 0, and its path
pub record IsNumbered (state : State) (number : ℕ) (row : StateRow) (path : List Side) : Type 0 where
  pub text : List ℕ
  pub lines : IsStateText state text
  pub line : List ℕ
  pub front : List (List ℕ)
  pub back : List (List ℕ)
  pub is_line : lines.lines ≡ front ++ line ∷ back
  pub before : length front ≡ number
  pub is_row : IsLeastRow state line row
  pub is_path : IsPath (Some path) (key_bytes row) state

-- the number isn't below that of the lines of a state
pub record HasFewer (state : State) (number : ℕ) : Type 0 where
  pub text : List ℕ
  pub lines : IsStateText state text
  pub few : length lines.lines ≤ number

-- behind the line of the root: the row with its path, or that there is none
pub data IsProved (state : State) (number : ℕ) (digest : List ℕ) (reply : Reply) : Type 0 where
  no_row : HasFewer state number → reply ≡ record { text = root_line digest ++ codes "refused NoRow\n"; status = BadWord } → IsProved state number digest reply
  proved : (row : StateRow) (path : List Side) → IsNumbered state number row path → reply ≡ record { text = root_line digest ++ (row_text row ++ flat_map side_line path); status = Done } → IsProved state number digest reply

-- the reply to `prove`
pub record IsProveReply (table : List CostFn) (file : FileSeen) (number : ℕ) (reply : Reply) : Type 0 where
  pub state : State
  pub digest : List ℕ
  pub has_root : HasRoot table file state digest
  pub is_proved : IsProved state number digest reply

-- ---- scripts

-- words that are not of the table
abbrev pub usage_reply : Reply
usage_reply = record { text = codes "usage: clarity COMMAND WORDS\n"; status = Usage }

-- the reply to `wire`
abbrev pub IsWireReply : List ℕ → Reply → Type 0
IsWireReply word reply = (outcome : Reading) × Parses word outcome × (reply ≡ wire_reply outcome)

-- What is written in one step, and the status; the reply to a command with these inputs.
abbrev pub IsReply : Inputs → Reply → Type 0
IsReply NoCommand reply = reply ≡ usage_reply
IsReply MissingFile reply = ⊥
IsReply (BadFile name fault) reply = reply ≡ bad_file_reply name fault
IsReply (BadArgument outcome) reply = reply ≡ no_value_reply outcome
IsReply (CallInputs source function args) reply = IsCalled source function args reply
IsReply (RunInputs table file state) reply = ⊥
IsReply (CheckInputs table sources) reply = IsReport (function_of table) [] sources reply
IsReply (ValueInputs word) reply = reply ≡ value_reply word
IsReply (WireInputs word) reply = IsWireReply word reply
IsReply (GenInputs seed count) reply = IsGenerated seed count reply
IsReply (TraceInputs table file) reply = ⊥
IsReply (AuditInputs table file claims report) reply = IsAuditReply table file claims report reply
IsReply (RootInputs table file) reply = IsRootReply table file reply
IsReply (ProveInputs table file number) reply = IsProveReply table file number reply
IsReply (VerifyInputs root key value sides) reply = reply ≡ verify_reply root key value sides

-- The script of a command for its inputs. Where a file isn't held that is reached, nothing is told or written, and the read has failed.
abbrev pub IsScript : Inputs → Script → Type 0
IsScript MissingFile script = script ≡ record { steps = []; end = Err ReadFailed }
IsScript (RunInputs table file state) script = IsRun table file state script
IsScript (TraceInputs table file) script = IsTraceScript table file script
IsScript inputs script = (reply : Reply) × IsReply inputs reply × (script ≡ script_of reply)
