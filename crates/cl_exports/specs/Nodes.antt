-- What calls make of a node.
use Rattle.std.specs.Prelude.{◌≡◌, ◌⊎◌, List, [], ◌∷◌, ℕ, Option, Some, None, option_and_then, codes}
use Rattle.cl_shapes.specs.declared.function.CostFn.{CostFn}
use Rattle.cl_file.specs.declared.entry.Entry.{Entry}
use Rattle.cl_file.specs.Entries.{NeverFall}
use Rattle.cl_file.specs.Files.{FileSeen}
use Rattle.cl_tx.specs.Step.{schedule_of}
use Rattle.cl_costs.specs.Schedules.{always}
use Rattle.cl_lines.specs.StateLines.{IsStateText}
use Rattle.cl_replies.specs.declared.inputs.FileFault.{FileFault}
use Rattle.cl_replies.specs.Inputs.{bad_file_reply}
use Rattle.cl_request.specs.Pieces.{pieces_of}
use Rattle.cl_session.specs.declared.session.Session.{Session}
use Rattle.cl_session.specs.Calls.{call_in}
use Rattle.cl_session.specs.Sessions.{IsCleared, IsOpened, IsSame, Peeked, Ran, RanPart}
use Rattle.cl_exports.specs.declared.outcome.Outcome.{Outcome}
use Rattle.cl_exports.specs.declared.outcome.Outcome.TheVariants.{Done, BadFile, NoMemory, NoRequest, Falls, HasHolders}
use Rattle.cl_exports.specs.Files.{IsCostFault, IsFile, IsFileFault, OnlyEntries}

-- ---- costs

-- the bytes give no table: they are bad, or there is no memory
abbrev pub HasNoTable : List ℕ → Outcome → Type 0
HasNoTable costs BadFile = (fault : FileFault) × IsCostFault costs fault
HasNoTable costs NoMemory = Unit {0}
HasNoTable costs outcome = ⊥

-- ---- opening

-- the node before all entries of a file, with its holders, under the costs of a table and of its epochs
pub record OpensFile (table : List CostFn) (file : List ℕ) (s : Session) : Type 0 where
  pub seen : FileSeen
  pub is_file : IsFile file seen
  pub opened : IsOpened seen.genesis (schedule_of table seen) s

-- there is none: the file is bad, or there is no memory
abbrev pub OpensNoFile : List ℕ → Outcome → Type 0
OpensNoFile file BadFile = (fault : FileFault) × IsFileFault file fault
OpensNoFile file NoMemory = Unit {0}
OpensNoFile file outcome = ⊥

-- the same, and where there are no bytes a node without holders, under the costs of a table
abbrev pub Opens : List CostFn → List ℕ → Session → Type 0
Opens table [] s = IsOpened [] (always table) s
Opens table (b ∷ file) s = OpensFile table (b ∷ file) s

abbrev pub OpensNot : List ℕ → Outcome → Type 0
OpensNot [] outcome = outcome ≡ NoMemory
OpensNot (b ∷ file) outcome = OpensNoFile (b ∷ file) outcome

-- ---- a transaction file

-- why none of its entries is done on a node of this height
abbrev pub MayNotRun : ℕ → FileSeen → Outcome → Type 0
MayNotRun height file Falls = ¬ (NeverFall height file.entries)
MayNotRun height file HasHolders = ¬ (OnlyEntries file)
MayNotRun height file NoMemory = Unit {0}
MayNotRun height file outcome = ⊥

-- what a file makes of a node
abbrev pub RunFileEnds : FileSeen → Outcome → Session → Session → Type 0
RunFileEnds file Done before after = OnlyEntries file × Ran file.entries before after
RunFileEnds file NoMemory before after = RanPart file.entries before after
RunFileEnds file outcome before after = MayNotRun before.node.height file outcome × IsCleared before after

-- a bad file makes nothing, and the text is its line
abbrev pub RefusesFile : FileFault → Outcome → Session → Session → Type 0
RefusesFile fault BadFile before after = IsSame before after × (after.text.items ≡ (bad_file_reply (codes "transactions") fault).text)
RefusesFile fault NoMemory before after = IsCleared before after
RefusesFile fault outcome before after = ⊥

-- what bytes make of a node: a transaction file, or none
pub data RunEnds (bytes : List ℕ) (outcome : Outcome) (before after : Session) : Type 0 where
  reads : (file : FileSeen) → IsFile bytes file → RunFileEnds file outcome before after → RunEnds bytes outcome before after
  refuses : (fault : FileFault) → IsFileFault bytes fault → RefusesFile fault outcome before after → RunEnds bytes outcome before after
  lacks_memory : outcome ≡ NoMemory → IsCleared before after → RunEnds bytes outcome before after

-- ---- a call

-- the call that is cut from bytes, with these limits
abbrev pub call_of_bytes : List ℕ → List ℕ → List ℕ → Option Entry
call_of_bytes bytes ends limits = option_and_then (call_in limits) (pieces_of bytes 0 ends)

-- what it makes of a node
abbrev pub CallEnds : Option Entry → Outcome → Session → Session → Type 0
CallEnds call Done before after = (entry : Entry) × (call ≡ Some entry) × Ran (entry ∷ []) before after
CallEnds call NoMemory before after = IsCleared before after ⊎ ((entry : Entry) × (call ≡ Some entry) × RanPart (entry ∷ []) before after)
CallEnds call NoRequest before after = (call ≡ None) × IsCleared before after
CallEnds call outcome before after = ⊥

-- what it would make of it
abbrev pub PeekEnds : Option Entry → Outcome → Session → Session → Type 0
PeekEnds call Done before after = (entry : Entry) × (call ≡ Some entry) × Peeked entry before after × IsSame before after
PeekEnds call NoMemory before after = IsSame before after
PeekEnds call NoRequest before after = (call ≡ None) × IsCleared before after
PeekEnds call outcome before after = ⊥

-- ---- the state

abbrev pub StateEnds : Outcome → Session → Session → Type 0
StateEnds Done before after = IsStateText before.node.state after.text.items × IsSame before after
StateEnds NoMemory before after = IsSame before after
StateEnds outcome before after = ⊥
