-- A command has one script.
use Rattle.std.proofs.Common.{◌≡◌, ℕ, List, [], ◌∷◌, ◌++◌, length, Ok, Err, inl, inr, sym, ap, ◌∙◌, subst}
use Rattle.std.specs.Prelude.{Option, Some, None}
use Rattle.cl_ports.specs.Files.{Held}
use Rattle.cl_shapes.specs.declared.function.CostFn.{CostFn}
use Rattle.cl_c32.specs.Address.{AddressParts}
use Rattle.cl_costs.specs.Schedules.{always}
use Rattle.cl_costs.specs.Tables.{function_of, unit_table}
use Rattle.cl_forms.specs.declared.version.Version.{Version}
use Rattle.cl_forms.specs.Texts.{Text, text_of}
use Rattle.cl_rules.specs.Context.{CostTable, Known}
use Rattle.cl_rules.specs.FormRules.{Defined}
use Rattle.cl_rules.specs.Acceptance.{known_of}
use Rattle.cl_rules.specs.Laws.{AcceptedIsClean, OneDefined, OneFirstOf, OneOrder}
use Rattle.cl_values.specs.Tree.{Tree}
use Rattle.cl_text.specs.Parsed.{Reading, Stands, Broken, NotALiteral, TooDeep, TooLarge, Parses}
use Rattle.cl_tx.specs.declared.outcome.TxResult.{TxResult}
use Rattle.cl_file.specs.Files.{FileSeen}
use Rattle.cl_file.specs.Laws.{OneFile}
use Rattle.cl_file.specs.Paths.{Read}
use Rattle.cl_tx.specs.Laws.{OneRun}
use Rattle.cl_tx.specs.Step.{told_of}
use Rattle.cl_words.specs.declared.sources.Source.{Source}
use Rattle.cl_words.specs.Seen.{text_in as source_text}
use Rattle.cl_words.specs.Words.{Command, Call, Run, Check, Value, Wire, Gen, Trace, Audit, Root, Prove, Verify}
use Rattle.cl_words.specs.Argument.{Arguments, before, from_word, Spell}
use Rattle.cl_entries.specs.declared.status.Reply.{Reply}
use Rattle.cl_entries.specs.Scripts.{Script, script_of}
use Rattle.cl_entries.specs.Entries.{OneRunScript}
use Rattle.cl_traces.specs.Traces.{OneTraceScript}
use Rattle.cl_audit_walk.specs.declared.cursor.Claim.{Claim}
use Rattle.cl_audit_reply.specs.Laws.{OneAuditReply}
use Rattle.cl_replies.specs.Inputs.{Inputs, NoCommand, MissingFile, BadFile, BadArgument, CallInputs, RunInputs, CheckInputs, ValueInputs, WireInputs, GenInputs, TraceInputs, AuditInputs, RootInputs, ProveInputs, VerifyInputs}
use Rattle.cl_replies.specs.Spelling.{wire_reply}
use Rattle.cl_replies.specs.Reports.{IsCalled, IsReply, IsScript, IsWireReply, call, called_reply, deployment, file_of}
use Rattle.cl_replies.specs.Checked.{IsReport, accepted_reply, refused_source_reply, source_at}
use Rattle.cl_replies.proofs.Counted.{generated_same}
use Rattle.cl_replies.proofs.Rooted.{OneOfRoots, proved_same, root_same}
use Rattle.cl_app.specs.Reading.{CommandReads, FileResult, IsTransactionsOf, Reads, claims_in, costs_in, ends_with, reads_audited, reads_called, reads_entries, reads_file, reads_file_of_entries, reads_sources, reads_transactions, text_in, transactions_result}
use Rattle.cl_app.specs.Top.{HasScript}

abbrev pub OneOutcome : Type 0
OneOutcome = (text : List ℕ) (a b : Reading) → Parses text a → Parses text b → a ≡ b

-- a source is accepted or refused in one way
pub record OneOfSources : Type 0 where
  pub clean : AcceptedIsClean
  pub defined : OneDefined
  pub first : OneFirstOf
  pub order : OneOrder

-- what comes of a text, of a transaction file, of entries, of sources and of roots is one
pub record OneOfEach : Type 0 where
  pub outcome : OneOutcome
  pub file : OneFile
  pub run : OneRun
  pub script : OneRunScript
  pub traces : OneTraceScript
  pub audits : OneAuditReply
  pub sources : OneOfSources
  pub roots : OneOfRoots

-- ---- replies

-- at most one reply
abbrev OneReply : (Reply → Type 0) → Type 0
OneReply Is = (x y : Reply) → Is x → Is y → x ≡ y

called_same : OneRun → (function : List ℕ) (args : List Tree) (text : Text) → OneReply (IsCalled text function args)
called_same once function args text x y p q =
    let first = deployment text in
    let second = call function args in
    let same : p.deployed ∷ p.called ∷ [] ≡ q.deployed ∷ q.called ∷ [] = (once (always unit_table) (file_of (first ∷ second ∷ [])) (p.deployed ∷ p.called ∷ []) (q.deployed ∷ q.called ∷ []) p.after q.after p.runs q.runs).0 in
    let deployed : p.deployed ≡ q.deployed = cc in
    let called : p.called ≡ q.called = cc in
    p.is ∙ ap (λ (r : TxResult). called_reply first second r p.called) deployed ∙ ap (called_reply first second q.deployed) called ∙ sym q.is

report_same : OneOfSources → (table : CostTable) (known : List Known) (sources : List Source) → OneReply (IsReport table known sources)
report_same laws table known [] x y p q = p ∙ sym q
report_same laws table known (s ∷ sources) x y (inl p) (inl q) =
    let defined : p.0.defined ≡ q.0.defined = laws.defined known s.principal table (source_text s) p.0 q.0 in
    let forms : p.0.forms ≡ q.0.forms = (laws.order (source_text s) p.0.forms q.0.forms p.0.order q.0.order p.0.typed.is_ordered q.0.typed.is_ordered).0 in
    let rest : p.1 ≡ q.1 =
    report_same laws table (known ++ known_of s.principal (length s.text) q.0.defined ∷ []) sources p.1 q.1
    (subst (λ (D : Defined). IsReport table (known ++ known_of s.principal (length s.text) D ∷ []) sources p.1) defined p.2) q.2
    in
    p.3 ∙ (λ i. accepted_reply s (told_of table (defined i) (forms i)) (rest i)) ∙ sym q.3
report_same laws table known (s ∷ sources) x y (inl p) (inr q) = absurd (laws.clean known s.principal table (source_text s) q.0.rule q.0.span q.0.names p.0 q.1)
report_same laws table known (s ∷ sources) x y (inr p) (inl q) = absurd (laws.clean known s.principal table (source_text s) p.0.rule p.0.span p.0.names q.0 p.1)
report_same laws table known (s ∷ sources) x y (inr p) (inr q) =
    let same = laws.first known s.principal table (source_text s) p.0.rule q.0.rule p.0.span q.0.span p.0.names q.0.names p.1 q.1 in
    p.2 ∙ (λ i. refused_source_reply s (record { rule = same.0 i; span = same.1 i; names = same.2 i })) ∙ sym q.2

wire_same : OneOutcome → (word : List ℕ) → OneReply (IsWireReply word)
wire_same once word x y p q = p.2 ∙ ap wire_reply (once word p.0 q.0 p.1 q.1) ∙ sym q.2

reply_same : OneOfEach → (inputs : Inputs) → OneReply (IsReply inputs)
reply_same laws NoCommand x y p q = p ∙ sym q
reply_same laws MissingFile x y p q = absurd p
reply_same laws (BadFile name fault) x y p q = p ∙ sym q
reply_same laws (BadArgument outcome) x y p q = p ∙ sym q
reply_same laws (CallInputs source function args) x y p q = called_same laws.run function args source x y p q
reply_same laws (RunInputs table file state) x y p q = absurd p
reply_same laws (CheckInputs table sources) x y p q = report_same laws.sources (function_of table) [] sources x y p q
reply_same laws (ValueInputs word) x y p q = p ∙ sym q
reply_same laws (WireInputs word) x y p q = wire_same laws.outcome word x y p q
reply_same laws (GenInputs seed count) x y p q = generated_same laws.run seed count x y p q
reply_same laws (TraceInputs table file) x y p q = absurd p
reply_same laws (AuditInputs table file claims report) x y p q = laws.audits table file claims report x y p q
reply_same laws (RootInputs table file) x y p q = root_same laws.run laws.roots table file x y p q
reply_same laws (ProveInputs table file number) x y p q = proved_same laws.run laws.roots table file number x y p q
reply_same laws (VerifyInputs root key value sides) x y p q = p ∙ sym q

-- ---- scripts

-- of inputs that are replied to
abbrev IsReplied : Inputs → Script → Type 0
IsReplied inputs script = (reply : Reply) × IsReply inputs reply × (script ≡ script_of reply)

replied_same : OneOfEach → (inputs : Inputs) (a b : Script) → IsReplied inputs a → IsReplied inputs b → a ≡ b
replied_same laws inputs a b p q = p.2 ∙ ap script_of (reply_same laws inputs p.0 q.0 p.1 q.1) ∙ sym q.2

pub script_same : OneOfEach → (inputs : Inputs) (a b : Script) → IsScript inputs a → IsScript inputs b → a ≡ b
script_same laws NoCommand a b p q = replied_same laws NoCommand a b p q
script_same laws MissingFile a b p q = p ∙ sym q
script_same laws (BadFile name fault) a b p q = replied_same laws (BadFile name fault) a b p q
script_same laws (BadArgument outcome) a b p q = replied_same laws (BadArgument outcome) a b p q
script_same laws (CallInputs source function args) a b p q = replied_same laws (CallInputs source function args) a b p q
script_same laws (RunInputs table file state) a b p q = laws.script table file state a b p q
script_same laws (CheckInputs table sources) a b p q = replied_same laws (CheckInputs table sources) a b p q
script_same laws (ValueInputs word) a b p q = replied_same laws (ValueInputs word) a b p q
script_same laws (WireInputs word) a b p q = replied_same laws (WireInputs word) a b p q
script_same laws (GenInputs seed count) a b p q = replied_same laws (GenInputs seed count) a b p q
script_same laws (TraceInputs table file) a b p q = laws.traces table file a b p q
script_same laws (AuditInputs table file claims report) a b p q = replied_same laws (AuditInputs table file claims report) a b p q
script_same laws (RootInputs table file) a b p q = replied_same laws (RootInputs table file) a b p q
script_same laws (ProveInputs table file number) a b p q = replied_same laws (ProveInputs table file number) a b p q
script_same laws (VerifyInputs root key value sides) a b p q = replied_same laws (VerifyInputs root key value sides) a b p q

-- ---- inputs

-- at most one list of names, and one of inputs
abbrev OneRead : Reads → Type 0
OneRead Is = (m n : List (List ℕ)) (a b : Inputs) → Is m a → Is n b → (m ≡ n) × (a ≡ b)

ends_same : (found : Inputs) → OneRead (ends_with found)
ends_same found m n a b p q = (p.0 ∙ sym q.0, p.1 ∙ sym q.1)

file_same : {T : Type 0} (name : List ℕ) (result : FileResult T) (Then : T → Reads) → ((x : T) → OneRead (Then x)) → OneRead (reads_file name result Then)
file_same name None Then once m n a b p q = (p.0 ∙ sym q.0, p.1 ∙ sym q.1)
file_same name (Some (Err fault)) Then once m n a b p q = (p.0 ∙ sym q.0, p.1 ∙ sym q.1)
file_same name (Some (Ok x)) Then once m n a b p q =
    let behind = once x p.0 q.0 a b p.2 q.2 in
    (p.1 ∙ ap (λ (l : List (List ℕ)). name ∷ l) behind.0 ∙ sym q.1, behind.1)

pub transactions_of_same : OneFile → (text : FileResult (List ℕ)) (a b : FileResult FileSeen) → IsTransactionsOf text a → IsTransactionsOf text b → a ≡ b
transactions_of_same once None a b p q = p ∙ sym q
transactions_of_same once (Some (Err fault)) a b p q = p ∙ sym q
transactions_of_same once (Some (Ok bytes)) a b p q = p.2 ∙ ap (λ (r : Read FileSeen). Some (transactions_result r)) (once bytes p.0 q.0 p.1 q.1) ∙ sym q.2

file_of_entries_same : OneFile → (files : Held) (name : List ℕ) (Then : FileSeen → Reads) → ((file : FileSeen) → OneRead (Then file)) → OneRead (reads_file_of_entries files name Then)
file_of_entries_same once files name Then behind m n a b p q =
    let same = transactions_of_same once (text_in files name) p.0 q.0 p.1 q.1 in
    file_same name q.0 Then behind m n a b (subst (λ (r : FileResult FileSeen). reads_file name r Then m a) same p.2) q.2

transactions_same : OneFile → (files : Held) (name : List ℕ) (found : FileSeen → Inputs) → OneRead (reads_transactions files name found)
transactions_same once files name found = file_of_entries_same once files name (λ file. ends_with (found file)) (λ file. ends_same (found file))

entries_same : OneFile → (files : Held) (costs file : List ℕ) (found : List CostFn → FileSeen → Inputs) → OneRead (reads_entries files costs file found)
entries_same once files costs file found = file_same costs (costs_in files costs) (λ table. reads_transactions files file (found table)) (λ table. transactions_same once files file (found table))

audited_same : (files : Held) (trace report : List ℕ) (entries : ℕ) (found : List (List Claim) → List ℕ → Inputs) → OneRead (reads_audited files trace report entries found)
audited_same files trace report entries found =
    file_same trace (claims_in files trace entries) (λ claims. reads_file report (text_in files report) (λ text. ends_with (found claims text)))
    (λ claims. file_same report (text_in files report) (λ text. ends_with (found claims text)) (λ text. ends_same (found claims text)))

sources_same : (files : Held) (address : AddressParts) (version : Version) (paths : List (List ℕ)) (Then : List Source → Reads) → ((sources : List Source) → OneRead (Then sources)) → OneRead (reads_sources files address version paths Then)
sources_same files address version [] Then once = once []
sources_same files address version (path ∷ paths) Then once =
    file_same path (text_in files path) (λ text. reads_sources files address version paths (λ sources. Then (source_at address version path text ∷ sources)))
    (λ text. sources_same files address version paths (λ sources. Then (source_at address version path text ∷ sources)) (λ sources. once (source_at address version path text ∷ sources)))

called_read : (files : Held) (file function : List ℕ) (version : Version) (args : Arguments) → OneRead (reads_called files file function version args)
called_read files file function version (Err outcome) = ends_same (BadArgument outcome)
called_read files file function version (Ok args) = file_same file (text_in files file) (λ text. ends_with (CallInputs (text_of text version) function args)) (λ text. ends_same (CallInputs (text_of text version) function args))

from_same : (o : Reading) (Behind : Arguments → Type 0) → ((a b : Arguments) → Behind a → Behind b → a ≡ b) → (a b : Arguments) → from_word o Behind a → from_word o Behind b → a ≡ b
from_same (Stands v) Behind once a b p q = p.2 ∙ ap (before v) (once p.0 q.0 p.1 q.1) ∙ sym q.2
from_same (Broken r) Behind once a b p q = p ∙ sym q
from_same (NotALiteral span) Behind once a b p q = p ∙ sym q
from_same (TooDeep span) Behind once a b p q = p ∙ sym q
from_same (TooLarge span) Behind once a b p q = p ∙ sym q

-- words spell one list of arguments
pub spell_same : OneOutcome → (words : List (List ℕ)) (a b : Arguments) → Spell words a → Spell words b → a ≡ b
spell_same once [] a b p q = p ∙ sym q
spell_same once (word ∷ words) a b p q =
    let outcome : p.0 ≡ q.0 = once word p.0 q.0 p.1 q.1 in
    from_same q.0 (Spell words) (spell_same once words) a b (subst (λ (o : Reading). from_word o (Spell words) a) outcome p.2) q.2

read_same : OneOutcome → OneFile → (command : Option Command) (files : Held) → OneRead (CommandReads command files)
read_same outcome once None files = ends_same NoCommand
read_same outcome once (Some (Call file function words version)) files = λ m n a b p q.
    called_read files file function version q.0 m n a b (subst (λ (args : Arguments). reads_called files file function version args m a) (spell_same outcome words p.0 q.0 p.1 q.1) p.2) q.2
read_same outcome once (Some (Run costs file state)) files = entries_same once files costs file (λ table f. RunInputs table f state)
read_same outcome once (Some (Check costs address paths version)) files =
    file_same costs (costs_in files costs) (λ table. reads_sources files address version paths (λ sources. ends_with (CheckInputs table sources)))
    (λ table. sources_same files address version paths (λ sources. ends_with (CheckInputs table sources)) (λ sources. ends_same (CheckInputs table sources)))
read_same outcome once (Some (Value word)) files = ends_same (ValueInputs word)
read_same outcome once (Some (Wire word)) files = ends_same (WireInputs word)
read_same outcome once (Some (Gen seed count)) files = ends_same (GenInputs seed count)
read_same outcome once (Some (Trace costs file)) files = entries_same once files costs file TraceInputs
read_same outcome once (Some (Audit costs file trace report)) files =
    file_same costs (costs_in files costs) (λ table. reads_file_of_entries files file (λ f. reads_audited files trace report (length f.entries) (AuditInputs table f)))
    (λ table. file_of_entries_same once files file (λ f. reads_audited files trace report (length f.entries) (AuditInputs table f)) (λ f. audited_same files trace report (length f.entries) (AuditInputs table f)))
read_same outcome once (Some (Root costs file)) files = entries_same once files costs file RootInputs
read_same outcome once (Some (Prove costs file number)) files = entries_same once files costs file (λ table f. ProveInputs table f number)
read_same outcome once (Some (Verify root key value sides)) files = ends_same (VerifyInputs root key value sides)

pub inputs_same : OneOfEach → (command : Option Command) (files : Held) (m n : List (List ℕ)) (a b : Inputs) → CommandReads command files m a → CommandReads command files n b → a ≡ b
inputs_same laws command files m n a b p q = (read_same laws.outcome laws.file command files m n a b p q).1

pub command_same : OneOfEach → (command : Option Command) (files : Held) (a b : Script) → HasScript command files a → HasScript command files b → a ≡ b
command_same laws command files a b p q =
    let inputs = inputs_same laws command files p.asked q.asked p.inputs q.inputs p.read q.read in
    script_same laws q.inputs a b (subst (λ (x : Inputs). IsScript x a) inputs p.is) q.is
