-- The inputs of a command: what its words say, with what its files hold.
use Rattle.std.specs.Prelude.{ℕ, Bool, List, ◌++◌, codes, decimal, Result}
use Rattle.std.specs.Str.{encode_utf8_all}
use Rattle.cl_shapes.specs.declared.function.CostFn.{CostFn}
use Rattle.cl_values.specs.Tree.{Tree}
use Rattle.cl_costs.specs.declared.refusal.CostRefusal.{CostRefusal}
use Rattle.cl_costs.specs.declared.refusal.CostRefusal.TheVariants.{NotJson, Missing, BadShape, TooBig, Unknown}
use Rattle.cl_text.specs.Parsed.{Reading, outcome_of}
use Rattle.cl_forms.specs.Texts.{Text, text_of}
use Rattle.cl_file.specs.declared.refusal.TxRefusal.{TxRefusal}
use Rattle.cl_file.specs.declared.refusal.TxRefusal.TheVariants as broken
use Rattle.cl_file.specs.Files.{FileSeen}
use Rattle.cl_claims.specs.declared.reading.BadLine.{BadLine}
use Rattle.cl_audit_walk.specs.declared.cursor.Claim.{Claim}
use Rattle.cl_audit_results.specs.Audits.{claims_of}
use Rattle.cl_words.specs.declared.sources.Source.{Source}
use Rattle.cl_words.specs.Words.{texts}
use Rattle.cl_entries.specs.declared.status.Reply.{Reply}
use Rattle.cl_entries.specs.declared.status.Status.TheVariants.{BadFile as BadFileStatus}
use Rattle.cl_replies.specs.declared.inputs.FileFault.{FileFault}
use Rattle.cl_replies.specs.declared.inputs.FileFault.TheVariants.{TooLong, Costs, Transactions, Traces}
use Rattle.cl_replies.specs.declared.inputs.Inputs.{Inputs as InputsOfCode}
use Rattle.cl_replies.specs.declared.inputs.Inputs.TheVariants as input

pub data Inputs : Type 0 where
  -- the words are no command
  NoCommand : Inputs
  -- nothing is held under the name of a file
  MissingFile : Inputs
  -- the first file that is too long or not in its format
  BadFile : (name : List ℕ) (fault : FileFault) → Inputs
  -- the first argument of `call` that is no value
  BadArgument : (outcome : Reading) → Inputs
  CallInputs : (source : Text) (function : List ℕ) (args : List Tree) → Inputs
  RunInputs : (table : List CostFn) (file : FileSeen) (state : Bool) → Inputs
  CheckInputs : (table : List CostFn) (sources : List Source) → Inputs
  ValueInputs : (word : List ℕ) → Inputs
  WireInputs : (word : List ℕ) → Inputs
  GenInputs : (seed count : ℕ) → Inputs
  TraceInputs : (table : List CostFn) (file : FileSeen) → Inputs
  -- a transaction file with the claims of each of its entries, and a report
  AuditInputs : (table : List CostFn) (file : FileSeen) (claims : List (List Claim)) (report : List ℕ) → Inputs
  RootInputs : (table : List CostFn) (file : FileSeen) → Inputs
  ProveInputs : (table : List CostFn) (file : FileSeen) (number : ℕ) → Inputs
  VerifyInputs : (root key value : List ℕ) (sides : List (List ℕ)) → Inputs

-- as the code has them
abbrev pub inputs_seen : InputsOfCode → Inputs
inputs_seen input.NoCommand = NoCommand
inputs_seen (input.BadFile name fault) = BadFile name.now fault
inputs_seen (input.BadArgument refusal) = BadArgument (outcome_of refusal)
inputs_seen (input.Call source version function args) = CallInputs (text_of source version) function.now args
inputs_seen (input.Run costs file state) = RunInputs costs file state
inputs_seen (input.Check costs sources) = CheckInputs costs sources
inputs_seen (input.Value word) = ValueInputs word.now
inputs_seen (input.Wire word) = WireInputs word.now
inputs_seen (input.Gen seed count) = GenInputs seed count
inputs_seen (input.Trace costs file) = TraceInputs costs file
inputs_seen (input.Audit costs file traces report) = AuditInputs costs file (claims_of traces.items) report
inputs_seen (input.Root costs file) = RootInputs costs file
inputs_seen (input.Prove costs file number) = ProveInputs costs file number
inputs_seen (input.Verify root key value sides) = VerifyInputs root.now key.now value.now (texts sides.now)

-- ---- bad files

abbrev pub cost_fault_text : CostRefusal → List ℕ
cost_fault_text NotJson = codes "NotJson"
cost_fault_text (Missing name) = codes "Missing " ++ name
cost_fault_text (BadShape name dimension) = codes "BadShape " ++ (name ++ (codes " " ++ encode_utf8_all dimension))
cost_fault_text (TooBig name) = codes "TooBig " ++ name
cost_fault_text (Unknown name) = codes "Unknown " ++ encode_utf8_all name

-- the fault, and the path of its place where it has one
abbrev pub transactions_fault_text : TxRefusal → List ℕ
transactions_fault_text broken.NotJson = codes "NotJson"
transactions_fault_text (broken.Field path) = codes "Field " ++ encode_utf8_all path
transactions_fault_text (broken.BadValue path) = codes "BadValue " ++ encode_utf8_all path
transactions_fault_text broken.TooMany = codes "TooMany"
transactions_fault_text (broken.HeightFalls path) = codes "HeightFalls " ++ encode_utf8_all path
transactions_fault_text broken.GenesisTooBig = codes "GenesisTooBig"
transactions_fault_text broken.Version = codes "Version"

-- the number of a line, counted from 0
abbrev pub line_fault_text : BadLine → List ℕ
line_fault_text bad = codes "BadLine " ++ decimal bad.line

abbrev pub fault_text : FileFault → List ℕ
fault_text TooLong = codes "TooLong"
fault_text (Costs fault) = cost_fault_text fault
fault_text (Transactions fault) = transactions_fault_text fault
fault_text (Traces fault) = line_fault_text fault

-- a file by its name, and its fault
abbrev pub bad_file_reply : List ℕ → FileFault → Reply
bad_file_reply name fault = record { text = codes "bad file " ++ (name ++ (codes " " ++ (fault_text fault ++ codes "\n"))); status = BadFileStatus }
