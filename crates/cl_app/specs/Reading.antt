-- What a command reads: the files that its words name, in their order, up to the first that is bad.
use Rattle.std.specs.Prelude.{◌≡◌, ◌⊎◌, ℕ, Bool, true, List, [], ◌∷◌, Option, Some, None, option_map, Result, Ok, Err, length, nat_lt, if◌then◌else◌}
use Rattle.cl_c32.specs.Address.{AddressParts}
use Rattle.cl_shapes.specs.declared.function.CostFn.{CostFn}
use Rattle.cl_costs.specs.declared.refusal.CostRefusal.{CostRefusal}
use Rattle.cl_costs.specs.CostFile.{table_of}
use Rattle.cl_ports.specs.Files.{Held, content_of}
use Rattle.cl_ports.specs.Growth.{GrowsPart}
use Rattle.cl_ports.specs.declared.TheConstants.{MAX_FILE_BYTES}
use Rattle.cl_forms.specs.declared.version.Version.{Version}
use Rattle.cl_forms.specs.Texts.{text_of}
use Rattle.cl_file.specs.Paths.{Read}
use Rattle.cl_file.specs.Files.{FileSeen, FileReads}
use Rattle.cl_words.specs.declared.sources.Source.{Source}
use Rattle.cl_words.specs.Argument.{Arguments, Spell}
use Rattle.cl_words.specs.Words.{Command, are_short, Call, Run, Check, Value, Wire, Gen, Trace, Audit, Root, Prove, Verify}
use Rattle.std.proofs.Common.{Vec, Global}
use Rattle.cl_audit.specs.declared.trace.Trace.{Trace as TraceOfCode}
use Rattle.cl_audit_walk.specs.declared.cursor.Claim.{Claim}
use Rattle.cl_audit_results.specs.Audits.{claims_of}
use Rattle.cl_audit_reply.specs.Grouped.{AreForEntries, traces_in}
use Rattle.cl_app.specs.declared.files.BadFile.{BadFile as BadFileOfCode}
use Rattle.cl_app.specs.declared.inputs.Audited.{Audited}
use Rattle.cl_app.specs.declared.inputs.Purpose.{Purpose}
use Rattle.cl_app.specs.declared.inputs.Purpose.TheVariants.{Report, Values, StateRoot, Row}
use Rattle.cl_replies.specs.declared.inputs.FileFault.{FileFault}
use Rattle.cl_replies.specs.declared.inputs.FileFault.TheVariants.{TooLong, Costs, Transactions, Traces}
use Rattle.cl_replies.specs.Inputs.{Inputs, NoCommand, MissingFile, BadFile, BadArgument, CallInputs, RunInputs, CheckInputs, ValueInputs, WireInputs, GenInputs, TraceInputs, AuditInputs, RootInputs, ProveInputs, VerifyInputs}
use Rattle.cl_replies.specs.Checked.{source_at}
use Rattle.cl_replies.specs.Kept.{AreOfPaths}

-- ---- one file: what it reads as, or its fault; none where nothing is held under its name

abbrev pub FileResult : Type 0 → Type 0
FileResult T = Option (Result T FileFault)

abbrev pub is_long : List ℕ → Bool
is_long bytes = nat_lt MAX_FILE_BYTES (length bytes)

abbrev pub text_result : List ℕ → Result (List ℕ) FileFault
text_result bytes = if is_long bytes then Err TooLong else Ok bytes

-- the bytes of a source
abbrev pub text_in : Held → List ℕ → FileResult (List ℕ)
text_in files name = option_map text_result (content_of files name)

abbrev pub costs_result : Result (List CostFn) CostRefusal → Result (List CostFn) FileFault
costs_result (Ok table) = Ok table
costs_result (Err fault) = Err (Costs fault)

abbrev pub costs_of : Result (List ℕ) FileFault → Result (List CostFn) FileFault
costs_of (Ok bytes) = costs_result (table_of bytes)
costs_of (Err fault) = Err fault

-- the table of a cost file
abbrev pub costs_in : Held → List ℕ → FileResult (List CostFn)
costs_in files name = option_map costs_of (text_in files name)

abbrev pub transactions_result : Read FileSeen → Result FileSeen FileFault
transactions_result (Ok file) = Ok file
transactions_result (Err fault) = Err (Transactions fault)

abbrev pub IsTransactionsOf : FileResult (List ℕ) → FileResult FileSeen → Type 0
IsTransactionsOf None result = result ≡ None
IsTransactionsOf (Some (Err fault)) result = result ≡ Some (Err fault)
IsTransactionsOf (Some (Ok bytes)) result = (read : Read FileSeen) × FileReads bytes read × (result ≡ Some (transactions_result read))

-- the entries of a transaction file
abbrev pub AreTransactionsIn : Held → List ℕ → FileResult FileSeen → Type 0
AreTransactionsIn files name result = IsTransactionsOf (text_in files name) result

abbrev pub claims_result : Result (List (List Claim)) ℕ → Result (List (List Claim)) FileFault
claims_result (Ok claims) = Ok claims
claims_result (Err line) = Err (Traces (record { line = line }))

abbrev pub claims_by : ℕ → Result (List ℕ) FileFault → Result (List (List Claim)) FileFault
claims_by entries (Ok bytes) = claims_result (traces_in entries bytes)
claims_by entries (Err fault) = Err fault

-- the claims of each of so many entries in a trace file
abbrev pub claims_in : Held → List ℕ → ℕ → FileResult (List (List Claim))
claims_in files name entries = option_map (claims_by entries) (text_in files name)

-- ---- files one after another

-- the names that are asked for, and the inputs
abbrev pub Reads : Type 1
Reads = List (List ℕ) → Inputs → Type 0

-- nothing more is asked for
abbrev pub ends_with : Inputs → Reads
ends_with found asked inputs = (asked ≡ []) × (inputs ≡ found)

-- a file is asked for by its name, and where it is good, what is read behind it
abbrev pub reads_file : {T : Type 0} → List ℕ → FileResult T → (T → Reads) → Reads
reads_file name None Then asked inputs = (asked ≡ name ∷ []) × (inputs ≡ MissingFile)
reads_file name (Some (Err fault)) Then asked inputs = (asked ≡ name ∷ []) × (inputs ≡ BadFile name fault)
reads_file name (Some (Ok x)) Then asked inputs = (more : List (List ℕ)) × (asked ≡ name ∷ more) × Then x more inputs

-- a transaction file, and what is read behind it
abbrev pub reads_file_of_entries : Held → List ℕ → (FileSeen → Reads) → Reads
reads_file_of_entries files name Then asked inputs =
    (result : FileResult FileSeen) × AreTransactionsIn files name result × reads_file name result Then asked inputs

abbrev pub reads_transactions : Held → List ℕ → (FileSeen → Inputs) → Reads
reads_transactions files name found = reads_file_of_entries files name (λ file. ends_with (found file))

-- a cost file, and then a transaction file
abbrev pub reads_entries : Held → List ℕ → List ℕ → (List CostFn → FileSeen → Inputs) → Reads
reads_entries files costs file found = reads_file costs (costs_in files costs) (λ table. reads_transactions files file (found table))

-- a trace file of so many entries, and then a report
abbrev pub reads_audited : Held → List ℕ → List ℕ → ℕ → (List (List Claim) → List ℕ → Inputs) → Reads
reads_audited files trace report entries found =
    reads_file trace (claims_in files trace entries) (λ claims. reads_file report (text_in files report) (λ text. ends_with (found claims text)))

-- a cost file, a transaction file, its trace file and then its report
abbrev pub reads_audit : Held → List ℕ → List ℕ → List ℕ → List ℕ → Reads
reads_audit files costs file trace report =
    reads_file costs (costs_in files costs) (λ table. reads_file_of_entries files file (λ f. reads_audited files trace report (length f.entries) (AuditInputs table f)))

-- sources one after another
abbrev pub reads_sources : Held → AddressParts → Version → List (List ℕ) → (List Source → Reads) → Reads
reads_sources files address version [] Then = Then []
reads_sources files address version (path ∷ paths) Then =
    reads_file path (text_in files path) (λ text. reads_sources files address version paths (λ sources. Then (source_at address version path text ∷ sources)))

-- the source of `call`, where its arguments are values
abbrev pub reads_called : Held → List ℕ → List ℕ → Version → Arguments → Reads
reads_called files file function version (Err outcome) = ends_with (BadArgument outcome)
reads_called files file function version (Ok args) = reads_file file (text_in files file) (λ text. ends_with (CallInputs (text_of text version) function args))

-- What a command asks for and has then.
abbrev pub CommandReads : Option Command → Held → Reads
CommandReads None files = ends_with NoCommand
CommandReads (Some (Call file function words version)) files = λ asked inputs. (args : Arguments) × Spell words args × reads_called files file function version args asked inputs
CommandReads (Some (Run costs file state)) files = reads_entries files costs file (λ table f. RunInputs table f state)
CommandReads (Some (Check costs address paths version)) files =
    reads_file costs (costs_in files costs) (λ table. reads_sources files address version paths (λ sources. ends_with (CheckInputs table sources)))
CommandReads (Some (Value word)) files = ends_with (ValueInputs word)
CommandReads (Some (Wire word)) files = ends_with (WireInputs word)
CommandReads (Some (Gen seed count)) files = ends_with (GenInputs seed count)
CommandReads (Some (Trace costs file)) files = reads_entries files costs file TraceInputs
CommandReads (Some (Audit costs file trace report)) files = reads_audit files costs file trace report
CommandReads (Some (Root costs file)) files = reads_entries files costs file RootInputs
CommandReads (Some (Prove costs file number)) files = reads_entries files costs file (λ table f. ProveInputs table f number)
CommandReads (Some (Verify root key value sides)) files = ends_with (VerifyInputs root key value sides)

-- ---- what the code has of one file, where it is told what is held

pub record IsTextAt (held : Option Held) (name : List ℕ) (result : Result (List ℕ) FileFault) : Type 0 where
  pub told : (files : Held) → held ≡ Some files → text_in files name ≡ Some result

pub record AreCostsAt (held : Option Held) (name : List ℕ) (result : Result (List CostFn) FileFault) : Type 0 where
  pub told : (files : Held) → held ≡ Some files → costs_in files name ≡ Some result

pub record AreTransactionsAt (held : Option Held) (name : List ℕ) (result : Result FileSeen FileFault) : Type 0 where
  pub told : (files : Held) → held ≡ Some files → AreTransactionsIn files name (Some result)

-- as the code has them
abbrev pub claims_seen : Result (Vec TraceOfCode Global) FileFault → Result (List (List Claim)) FileFault
claims_seen (Ok traces) = Ok (claims_of traces.items)
claims_seen (Err fault) = Err fault

pub record AreClaimsAt (held : Option Held) (name : List ℕ) (entries : ℕ) (result : Result (List (List Claim)) FileFault) : Type 0 where
  pub told : (files : Held) → held ≡ Some files → claims_in files name entries ≡ Some result

-- what the entries of a file are read for
abbrev pub inputs_for : Purpose → List CostFn → FileSeen → Inputs
inputs_for (Report state) table file = RunInputs table file state
inputs_for Values table file = TraceInputs table file
inputs_for StateRoot table file = RootInputs table file
inputs_for (Row number) table file = ProveInputs table file number

-- sources, or the first bad file, where a cost file has this table
abbrev pub sources_seen : List CostFn → Result (List Source) BadFileOfCode → Inputs
sources_seen table (Ok sources) = CheckInputs table sources
sources_seen table (Err bad) = BadFile bad.name.now bad.fault

-- claims and a report, or the first bad file, where a cost file has this table and a transaction file these entries
abbrev pub audited_seen : List CostFn → FileSeen → Result Audited BadFileOfCode → Inputs
audited_seen table file (Ok audited) = AuditInputs table file (claims_of audited.traces.items) audited.report
audited_seen table file (Err bad) = BadFile bad.name.now bad.fault

-- these inputs come of what is read so
pub record Gives (Is : Held → Reads) (held : Option Held) (inputs : Inputs) : Type 0 where
  pub told : (files : Held) → held ≡ Some files → (asked : List (List ℕ)) × Is files asked inputs

-- a first part was asked for of the names that are asked for where it is read so
pub record Asks (Is : Held → Reads) (held : Option Held) (before now : Option (List (List ℕ))) : Type 0 where
  pub told : (files : Held) (asked : List (List ℕ)) (inputs : Inputs) → held ≡ Some files → Is files asked inputs → GrowsPart before now asked

-- ---- whatever is held

abbrev pub IsBadFile : Inputs → Type 0
IsBadFile inputs = (name : List ℕ) × (fault : FileFault) × (inputs ≡ BadFile name fault)

abbrev pub CallSuits : List ℕ → Version → Arguments → Inputs → Type 0
CallSuits function version (Err outcome) inputs = inputs ≡ BadArgument outcome
CallSuits function version (Ok args) inputs = IsBadFile inputs ⊎ ((text : List ℕ) × (inputs ≡ CallInputs (text_of text version) function args))

abbrev pub EntriesSuit : (List CostFn → FileSeen → Inputs) → Inputs → Type 0
EntriesSuit found inputs = IsBadFile inputs ⊎ ((table : List CostFn) × (file : FileSeen) × (inputs ≡ found table file))

abbrev pub AuditSuits : Inputs → Type 0
AuditSuits inputs = IsBadFile inputs ⊎ ((table : List CostFn) × (file : FileSeen) × (claims : List (List Claim)) × (report : List ℕ) × (inputs ≡ AuditInputs table file claims report))

-- the inputs that a command can have, whatever its files hold
abbrev pub Suits : Option Command → Inputs → Type 0
Suits None inputs = inputs ≡ NoCommand
Suits (Some (Call file function words version)) inputs = (args : Arguments) × Spell words args × CallSuits function version args inputs
Suits (Some (Run costs file state)) inputs = EntriesSuit (λ table f. RunInputs table f state) inputs
Suits (Some (Check costs address paths version)) inputs = IsBadFile inputs ⊎ ((table : List CostFn) × (sources : List Source) × (inputs ≡ CheckInputs table sources))
Suits (Some (Value word)) inputs = inputs ≡ ValueInputs word
Suits (Some (Wire word)) inputs = inputs ≡ WireInputs word
Suits (Some (Gen seed count)) inputs = inputs ≡ GenInputs seed count
Suits (Some (Trace costs file)) inputs = EntriesSuit TraceInputs inputs
Suits (Some (Audit costs file trace report)) inputs = AuditSuits inputs
Suits (Some (Root costs file)) inputs = EntriesSuit RootInputs inputs
Suits (Some (Prove costs file number)) inputs = EntriesSuit (λ table f. ProveInputs table f number) inputs
Suits (Some (Verify root key value sides)) inputs = inputs ≡ VerifyInputs root key value sides

-- These are inputs of the command; where it is told what is held, by what is held.
pub record AreInputs (command : Option Command) (held : Option Held) (inputs : Inputs) : Type 0 where
  pub suits : Suits command inputs
  pub gives : Gives (CommandReads command) held inputs

-- Where it is told what is held, a first part was asked for of the names that the command asks for.
abbrev pub AsksPart : Option Command → Option Held → Option (List (List ℕ)) → Option (List (List ℕ)) → Type 0
AsksPart command = Asks (CommandReads command)

-- what the table says of the words: the sources of `check` are of the contracts of paths, whose names differ, and the words of
-- `verify` are short; and a trace file has claims for each entry of its transaction file
abbrev pub KeepTable : Inputs → Type 0
KeepTable (CheckInputs table sources) = AreOfPaths sources
KeepTable (AuditInputs table file claims report) = AreForEntries file claims
KeepTable (VerifyInputs root key value sides) = are_short key sides ≡ true
KeepTable inputs = Unit {0}
