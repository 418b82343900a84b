-- Each command has a script by what is held.
use Rattle.std.proofs.Common.{◌≡◌, inl, inr, ◌⊎◌, ℕ, zero, suc, ◌<◌, ◌%◌, ◌==◌, Bool, true, false, List, [], ◌∷◌, ◌++◌, length, take, drop, get_or, Option, Some, None, Ok, Err, refl, sym, ap, subst, ◌∙◌, arith, take-append-drop}
use Rattle.std.specs.Prelude.{IfOk, nat_lt, codes, option_map, if◌then◌else◌}
use Rattle.std.specs.List.{All, AllByRecursion, flat_map, list_all}
use Rattle.std.proofs.Math.Seq.{drop-cons}
use Rattle.std.proofs.lemmas.Bool.{ltb-true, ltb-false, and_parts}
use Rattle.std.proofs.lemmas.List.{length-take-le}
use Rattle.std.proofs.lemmas.List.Elements.{All-nil, All-cons, All-push, All-from_recursion, Contains-get_or}
use Rattle.cl_c32.specs.Address.{AddressParts, IsAddress}
use Rattle.cl_c32.specs.ContractName.{IsContractName}
use Rattle.cl_c32.specs.declared.principal.Principal.{Principal}
use Rattle.cl_shapes.specs.declared.function.CostFn.{CostFn}
use Rattle.cl_costs.specs.Schedules.{ScheduleSeen, always}
use Rattle.cl_costs.specs.Tables.{function_of, unit_table}
use Rattle.cl_sexpr.specs.declared.sexpr.Span.{Span}
use Rattle.cl_sexpr.specs.declared.rule.Rule.{Rule}
use Rattle.cl_values.specs.Tree.{Tree, UintV, PrincipalV, NoneV}
use Rattle.cl_values.specs.Valid.{IsVal, IsPrincipal}
use Rattle.cl_values.proofs.Parts.{principal_is_val}
use Rattle.cl_ports.specs.Files.{Held}
use Rattle.cl_forms.specs.declared.version.Version.{Version}
use Rattle.cl_forms.specs.Texts.{Text, text_of}
use Rattle.cl_text.specs.Parsed.{Reading, Stands, Broken, NotALiteral, TooDeep, TooLarge, Parses}
use Rattle.cl_meaning.specs.Samples.{P0, P1}
use Rattle.cl_rules.specs.Context.{CostTable, Known}
use Rattle.cl_rules.specs.Acceptance.{Accepted, FirstBreakOf, known_of}
use Rattle.cl_answers.specs.Laws.{EachHasAnswer}
use Rattle.cl_file.specs.declared.entry.Entry.{Entry}
use Rattle.cl_file.specs.Files.{FileSeen, FileReads}
use Rattle.cl_file.specs.Laws.{EachFile}
use Rattle.cl_file.specs.Paths.{Read}
use Rattle.cl_tx.specs.declared.outcome.TxResult.{TxResult}
use Rattle.cl_tx.specs.Nodes.{NodeSeen}
use Rattle.cl_tx.specs.Seen.{SourceBreak}
use Rattle.cl_tx.specs.Step.{AllStep, Runs, first_node, schedule_of, told_of}
use Rattle.cl_workload.specs.Workload.{drawn, number_after, call_for, calls, workload, mint, transfer}
use Rattle.cl_workload.specs.Workload as workload_
use Rattle.cl_workload.specs.Summary.{summary_line, counts_of, supply_of, coins, balance_of}
use Rattle.cl_node_sound.specs.Sound.{IsSoundNode, HasParts, FileHasParts}
use Rattle.cl_node_sound.specs.Laws.{RunsEndSound}
use Rattle.cl_lines.specs.StateLines.{IsStateText}
use Rattle.cl_root.specs.HashTree.{IsRoot}
use Rattle.cl_results.specs.Laws.{EachRuns, TextsHaveValues, FilesHaveParts, EachHasText, EachHasRoot, EachLineHasRow}
use Rattle.cl_words.specs.declared.sources.Source.{Source}
use Rattle.cl_words.specs.Seen.{text_in as source_text}
use Rattle.cl_words.specs.Words.{Command, Call, Run, Check, Value, Wire, Gen, Trace, Audit, Root, Prove, Verify}
use Rattle.cl_words.specs.Argument.{Arguments, before, Spell}
use Rattle.cl_entries.specs.declared.status.Reply.{Reply}
use Rattle.cl_entries.specs.declared.status.Step.{Step}
use Rattle.cl_entries.specs.declared.status.Stop.TheVariants.{ReadFailed}
use Rattle.cl_entries.specs.declared.status.Status.TheVariants.{Done, BadWord}
use Rattle.cl_entries.specs.Scripts.{Script, script_of}
use Rattle.cl_entries.specs.Entries.{AreStateSteps, IsRun, RunsAreSound, steps_from}
use Rattle.cl_traces.specs.Traces.{EachHasTraceScript}
use Rattle.cl_audit_walk.specs.declared.cursor.Claim.{Claim}
use Rattle.cl_audit_reply.specs.Grouped.{grouped, grouped_result}
use Rattle.cl_audit_reply.specs.Laws.{EachHasAuditReply}
use Rattle.cl_audit_reply.proofs.TraceFiles.{grouped_length}
use Rattle.cl_claims.specs.Parsed.{Claims, claims_in as lines_of}
use Rattle.cl_replies.specs.declared.inputs.FileFault.TheVariants.{Transactions}
use Rattle.cl_replies.specs.Inputs.{Inputs, NoCommand, MissingFile, BadFile, BadArgument, CallInputs, RunInputs, CheckInputs, ValueInputs, WireInputs, GenInputs, TraceInputs, AuditInputs, RootInputs, ProveInputs, VerifyInputs, bad_file_reply}
use Rattle.cl_replies.specs.Spelling.{no_value_reply, value_reply, wire_reply, verify_reply}
use Rattle.cl_replies.specs.Checked.{IsReport, accepted_reply, refused_source_reply, source_at, all_checked}
use Rattle.cl_replies.specs.Reports.{home, deployment, call, called_reply, file_of, IsCalled, IsGenerated, HasRoot, IsRootReply, IsProved, no_row, proved, IsProveReply, IsScript, root_line, row_text, side_line, usage_reply}
use Rattle.cl_app.specs.Reading.{CommandReads, FileResult, IsTransactionsOf, Reads, claims_by, claims_in, claims_result, costs_in, ends_with, reads_audited, reads_called, reads_entries, reads_file, reads_file_of_entries, reads_sources, reads_transactions, text_in}
use Rattle.cl_app.specs.Top.{EachHasScript}

-- something comes of each text, file, source, run and state
pub record SomethingOfEach : Type 0 where
  pub outcome : (text : List ℕ) → (outcome : Reading) × Parses text outcome
  pub values : TextsHaveValues
  pub file : EachFile
  pub parts : FilesHaveParts
  pub source : EachHasAnswer
  pub runs : EachRuns
  pub sound : RunsAreSound
  pub traces : EachHasTraceScript
  pub audits : EachHasAuditReply
  pub ends : RunsEndSound
  pub text : EachHasText
  pub root : EachHasRoot
  pub rows : EachLineHasRow

-- ---- what is read

-- values, principals and heights in inputs are within the limits, and there are claims for each entry
abbrev InputsHaveParts : Inputs → Type 0
InputsHaveParts (CallInputs source function args) = All IsVal args
InputsHaveParts (RunInputs table file state) = FileHasParts file
InputsHaveParts (TraceInputs table file) = FileHasParts file
InputsHaveParts (AuditInputs table file claims report) = FileHasParts file × (length claims ≡ length file.entries)
InputsHaveParts (RootInputs table file) = FileHasParts file
InputsHaveParts (ProveInputs table file number) = FileHasParts file
InputsHaveParts inputs = Unit {0}

-- something is read so
record Found (Is : Reads) : Type 0 where
  asked : List (List ℕ)
  inputs : Inputs
  read : Is asked inputs
  parts : InputsHaveParts inputs

ends_found : (inputs : Inputs) → InputsHaveParts inputs → Found (ends_with inputs)
ends_found inputs parts = record { asked = []; inputs = inputs; read = (refl, refl); parts = parts }

file_found : {T : Type 0} (name : List ℕ) (result : FileResult T) (Then : T → Reads) → ((x : T) → result ≡ Some (Ok x) → Found (Then x)) → Found (reads_file name result Then)
file_found name None Then behind = record { asked = name ∷ []; inputs = MissingFile; read = (refl, refl); parts = tt }
file_found name (Some (Err fault)) Then behind = record { asked = name ∷ []; inputs = BadFile name fault; read = (refl, refl); parts = tt }
file_found name (Some (Ok x)) Then behind = let f = behind x refl in record { asked = name ∷ f.asked; inputs = f.inputs; read = (f.asked, refl, f.read); parts = f.parts }

sources_found : (files : Held) (address : AddressParts) (version : Version) (paths : List (List ℕ)) (Then : List Source → Reads) → ((sources : List Source) → Found (Then sources)) → Found (reads_sources files address version paths Then)
sources_found files address version [] Then behind = behind []
sources_found files address version (path ∷ paths) Then behind =
    file_found path (text_in files path) (λ text. reads_sources files address version paths (λ sources. Then (source_at address version path text ∷ sources)))
    (λ text is. sources_found files address version paths (λ sources. Then (source_at address version path text ∷ sources)) (λ sources. behind (source_at address version path text ∷ sources)))

claims_counted : (entries : ℕ) (lines : Claims) (claims : List (List Claim)) → ◌≡◌ {A = FileResult (List (List Claim))} (Some (claims_result (grouped_result entries lines))) (Some (Ok claims)) → length claims ≡ entries
claims_counted entries (Ok lines) claims is =
    let same : claims ≡ grouped lines entries = cc in
    ap length same ∙ grouped_length lines 0 entries
claims_counted entries (Err line) claims is = absurd cc

-- a trace file has claims for each entry
read_counted : (entries : ℕ) (text : FileResult (List ℕ)) (claims : List (List Claim)) → option_map (claims_by entries) text ≡ Some (Ok claims) → length claims ≡ entries
read_counted entries None claims is = absurd cc
read_counted entries (Some (Err fault)) claims is = absurd cc
read_counted entries (Some (Ok bytes)) claims is = claims_counted entries (lines_of entries bytes) claims is

audited_found : (files : Held) (trace report : List ℕ) (table : List CostFn) (file : FileSeen) → FileHasParts file → Found (reads_audited files trace report (length file.entries) (AuditInputs table file))
audited_found files trace report table file parts =
    file_found trace (claims_in files trace (length file.entries)) (λ claims. reads_file report (text_in files report) (λ text. ends_with (AuditInputs table file claims text)))
    (λ claims is.
    file_found report (text_in files report) (λ text. ends_with (AuditInputs table file claims text))
    (λ text there. ends_found (AuditInputs table file claims text) (parts, read_counted (length file.entries) (text_in files trace) claims is)))

same_file : (a b : FileSeen) → ◌≡◌ {A = FileResult FileSeen} (Some (Ok a)) (Some (Ok b)) → a ≡ b
same_file a b is = cc

-- ---- parts of entries that commands make

low_bytes : (bytes : List ℕ) → list_all (λ b. nat_lt b 256) bytes ≡ true → AllByRecursion (λ b. b < 256) bytes
low_bytes [] is = tt
low_bytes (b ∷ bytes) is = let both = and_parts (nat_lt b 256) (list_all (λ b. nat_lt b 256) bytes) is in (ltb-true b 256 both.0, low_bytes bytes both.1)

home_is : IsAddress home
home_is = record { version = omega arith; size = refl; bytes = All-from_recursion (λ b. b < 256) home.hash (low_bytes home.hash refl) }

other_is : IsAddress P1.address
other_is = record { version = omega arith; size = refl; bytes = All-from_recursion (λ b. b < 256) P1.address.hash (low_bytes P1.address.hash refl) }

uint_is : (n : ℕ) → n < 1000 → IsVal (UintV n)
uint_is n low = record { ranges = omega (arith, low); keys = refl; texts = refl; depth = omega arith; size = omega arith }

none_is : IsVal NoneV
none_is = record { ranges = tt; keys = refl; texts = refl; depth = omega arith; size = omega arith }

token_is : IsContractName (codes "token")
token_is = record { pattern = refl; within = omega arith }

mint_parts : (n : ℕ) → n < 1000 → HasParts (mint n)
mint_parts n low =
    (home_is, (home_is, token_is), All-from_recursion IsVal (UintV n ∷ PrincipalV P1 ∷ []) (uint_is n low, (principal_is_val P1 (other_is, tt), tt)))

transfer_parts : (n : ℕ) → n < 1000 → HasParts (transfer n)
transfer_parts n low = (
  other_is,
  (home_is, token_is),
  All-from_recursion IsVal (UintV n ∷ PrincipalV P1 ∷ PrincipalV P0 ∷ NoneV ∷ [])
      (uint_is n low, (principal_is_val P1 (other_is, tt), (principal_is_val P0 (home_is, tt), (none_is, tt)))),
)

call_parts : (d : ℕ) → HasParts (call_for d)
call_parts d = by (d % 4 == 0) (d % 1000) (omega arith)
  where
    by : (b : Bool) (n : ℕ) → n < 1000 → HasParts (if b then mint n else transfer n)
    by true n low = mint_parts n low
    by false n low = transfer_parts n low

calls_parts : (seed count : ℕ) → All HasParts (calls seed count)
unfolding calls
calls_parts seed zero = All-nil HasParts
calls_parts seed (suc n) = All-push HasParts (calls seed n) (call_for (drawn (number_after seed (suc n)))) (calls_parts seed n) (call_parts (drawn (number_after seed (suc n))))

workload_parts : (seed count : ℕ) → FileHasParts (workload seed count)
workload_parts seed count = record { holders = All-nil (λ (h : Principal × ℕ). IsPrincipal h.0); entries = All-cons HasParts workload_.deployment (calls seed count) (home_is, token_is) (calls_parts seed count) }

-- ---- laws that something comes of each

module _ (each : SomethingOfEach) where
  -- a file of entries, or its fault, where something is held under its name
  record ReadTransactions (text : FileResult (List ℕ)) : Type 0 where
    result : FileResult FileSeen
    are : IsTransactionsOf text result
    parts : (file : FileSeen) → result ≡ Some (Ok file) → FileHasParts file

  transactions_by : (bytes : List ℕ) (read : Read FileSeen) → FileReads bytes read → ReadTransactions (Some (Ok bytes))
  transactions_by bytes (Ok f) reads = record { result = Some (Ok f); are = (Ok f, reads, refl); parts = λ file is. subst FileHasParts (same_file f file is) (each.parts bytes f reads) }
  transactions_by bytes (Err fault) reads = record { result = Some (Err (Transactions fault)); are = (Err fault, reads, refl); parts = λ file is. absurd cc }

  transactions_of : (text : FileResult (List ℕ)) → ReadTransactions text
  transactions_of None = record { result = None; are = refl; parts = λ file is. absurd cc }
  transactions_of (Some (Err fault)) = record { result = Some (Err fault); are = refl; parts = λ file is. absurd cc }
  transactions_of (Some (Ok bytes)) = let r = each.file bytes in transactions_by bytes r.0 r.1

  file_of_entries_found : (files : Held) (name : List ℕ) (Then : FileSeen → Reads) → ((file : FileSeen) → FileHasParts file → Found (Then file)) → Found (reads_file_of_entries files name Then)
  file_of_entries_found files name Then behind =
      let t = transactions_of (text_in files name) in
      let f = file_found name t.result Then (λ file is. behind file (t.parts file is)) in
      record { asked = f.asked; inputs = f.inputs; read = (t.result, t.are, f.read); parts = f.parts }

  transactions_found : (files : Held) (name : List ℕ) (found : FileSeen → Inputs) → ((file : FileSeen) → FileHasParts file → InputsHaveParts (found file)) → Found (reads_transactions files name found)
  transactions_found files name found good = file_of_entries_found files name (λ file. ends_with (found file)) (λ file parts. ends_found (found file) (good file parts))

  entries_found : (files : Held) (costs name : List ℕ) (found : List CostFn → FileSeen → Inputs) → ((table : List CostFn) (file : FileSeen) → FileHasParts file → InputsHaveParts (found table file)) → Found (reads_entries files costs name found)
  entries_found files costs name found good =
      file_found costs (costs_in files costs) (λ table. reads_transactions files name (found table)) (λ table is. transactions_found files name (found table) (good table))

  record Spelled (words : List (List ℕ)) : Type 0 where
    args : Arguments
    spell : Spell words args
    valid : IfOk args (All IsVal)

  spelled_before : (v : Tree) → IsVal v → (args : Arguments) → IfOk args (All IsVal) → IfOk (before v args) (All IsVal)
  spelled_before v h (Ok vs) hs = All-cons IsVal v vs h hs
  spelled_before v h (Err outcome) hs = tt

  spelled_by : (word : List ℕ) (words : List (List ℕ)) (outcome : Reading) → Parses word outcome → Spelled words → Spelled (word ∷ words)
  spelled_by word words (Stands v) parses rest = record { args = before v rest.args; spell = (Stands v, parses, (rest.args, rest.spell, refl)); valid = spelled_before v (each.values word v parses) rest.args rest.valid }
  spelled_by word words (Broken b) parses rest = record { args = Err (Broken b); spell = (Broken b, parses, refl); valid = tt }
  spelled_by word words (NotALiteral span) parses rest = record { args = Err (NotALiteral span); spell = (NotALiteral span, parses, refl); valid = tt }
  spelled_by word words (TooDeep span) parses rest = record { args = Err (TooDeep span); spell = (TooDeep span, parses, refl); valid = tt }
  spelled_by word words (TooLarge span) parses rest = record { args = Err (TooLarge span); spell = (TooLarge span, parses, refl); valid = tt }

  spelled_of : (words : List (List ℕ)) → Spelled words
  spelled_of [] = record { args = Ok []; spell = refl; valid = All-nil IsVal }
  spelled_of (word ∷ words) = let outcome = each.outcome word in spelled_by word words outcome.0 outcome.1 (spelled_of words)

  called_found : (files : Held) (file function : List ℕ) (version : Version) (args : Arguments) → IfOk args (All IsVal) → Found (reads_called files file function version args)
  called_found files file function version (Err outcome) valid = ends_found (BadArgument outcome) tt
  called_found files file function version (Ok args) valid =
      file_found file (text_in files file) (λ text. ends_with (CallInputs (text_of text version) function args)) (λ text is. ends_found (CallInputs (text_of text version) function args) valid)

  command_found : (command : Option Command) (files : Held) → Found (CommandReads command files)
  command_found None files = ends_found NoCommand tt
  command_found (Some (Call file function words version)) files =
      let s = spelled_of words in
      let f = called_found files file function version s.args s.valid in
      record { asked = f.asked; inputs = f.inputs; read = (s.args, s.spell, f.read); parts = f.parts }
  command_found (Some (Run costs file state)) files = entries_found files costs file (λ table f. RunInputs table f state) (λ table f parts. parts)
  command_found (Some (Check costs address paths version)) files =
      file_found costs (costs_in files costs) (λ table. reads_sources files address version paths (λ sources. ends_with (CheckInputs table sources)))
      (λ table is. sources_found files address version paths (λ sources. ends_with (CheckInputs table sources)) (λ sources. ends_found (CheckInputs table sources) tt))
  command_found (Some (Value word)) files = ends_found (ValueInputs word) tt
  command_found (Some (Wire word)) files = ends_found (WireInputs word) tt
  command_found (Some (Gen seed count)) files = ends_found (GenInputs seed count) tt
  command_found (Some (Trace costs file)) files = entries_found files costs file TraceInputs (λ table f parts. parts)
  command_found (Some (Audit costs file trace report)) files =
      file_found costs (costs_in files costs) (λ table. reads_file_of_entries files file (λ f. reads_audited files trace report (length f.entries) (AuditInputs table f)))
      (λ table is. file_of_entries_found files file (λ f. reads_audited files trace report (length f.entries) (AuditInputs table f)) (audited_found files trace report table))
  command_found (Some (Root costs file)) files = entries_found files costs file RootInputs (λ table f parts. parts)
  command_found (Some (Prove costs file number)) files = entries_found files costs file (λ table f. ProveInputs table f number) (λ table f parts. parts)
  command_found (Some (Verify root key value sides)) files = ends_found (VerifyInputs root key value sides) tt

  -- ---- entries that are run

  state_steps : (state : Bool) (node : NodeSeen) → IsSoundNode node → (steps : List Step) × AreStateSteps state node.state steps
  state_steps true node sound = let t = each.text node sound in (record { events = []; bytes = t.0 } ∷ [], (t.0, t.1, refl))
  state_steps false node sound = ([], refl)

  run_there : (table : List CostFn) (file : FileSeen) (state : Bool) → FileHasParts file → (script : Script) × IsRun table file state script
  run_there table file state parts =
      let run = each.runs (schedule_of table file) file parts in
      let steps = state_steps state run.1 (each.ends (schedule_of table file) file run.0 run.1 parts run.2) in (
        record { steps = steps_from 0 file.entries run.0 ++ steps.0; end = Ok Done },
        record {
          results = run.0;
          after = run.1;
          runs = run.2;
          sound = each.sound (schedule_of table file) file run.0 run.1 parts run.2;
          state_steps = steps.0;
          are_state = steps.1;
          is = refl;
        },
      )

  -- ---- `call`

  record BothResults (schedule : ScheduleSeen) (first second : Entry) : Type 0 where
    deployed : TxResult
    called : TxResult
    after : NodeSeen
    runs : Runs schedule (file_of (first ∷ second ∷ [])) (deployed ∷ called ∷ []) after

  both_results : (schedule : ScheduleSeen) (first second : Entry) (results : List TxResult) (after : NodeSeen) → AllStep schedule (first_node []) (first ∷ second ∷ []) results after → BothResults schedule first second
  both_results schedule first second results after (s, more, step, (t, others, next, last, more_is), is) =
      let results_are : results ≡ s.result ∷ t.result ∷ [] = is ∙ ap (λ rs. s.result ∷ rs) (more_is ∙ ap (λ rs. t.result ∷ rs) last.0) in
      record {
        deployed = s.result;
        called = t.result;
        after = after;
        runs = record { steps = subst (λ rs. AllStep schedule (first_node []) (first ∷ second ∷ []) rs after) results_are (s, more, step, (t, others, next, last, more_is), is) };
      }

  called_there : (source : Text) (function : List ℕ) (args : List Tree) → All IsVal args → (reply : Reply) × IsCalled source function args reply
  called_there source function args valid =
      let first = deployment source in
      let second = call function args in
      let file = file_of (first ∷ second ∷ []) in
      let name : IsContractName (codes "main") = record { pattern = refl; within = omega arith } in
      let one : HasParts first = (home_is, name) in
      let two : HasParts second = (home_is, (home_is, name), valid) in
      let parts : FileHasParts file = record { holders = All-nil (λ (h : Principal × ℕ). IsPrincipal h.0); entries = All-cons HasParts first (second ∷ []) one (All-cons HasParts second [] two (All-nil HasParts)) } in
      let run = each.runs (always unit_table) file parts in
      let both = both_results (always unit_table) first second run.0 run.1 run.2.steps in (
        called_reply first second both.deployed both.called,
        record {
          deployed = both.deployed;
          called = both.called;
          after = both.after;
          runs = both.runs;
          sound = each.sound (always unit_table) file (both.deployed ∷ both.called ∷ []) both.after parts both.runs;
          is = refl;
        },
      )

  -- ---- `check`

  report_by : (table : CostTable) (known : List Known) (source : Source) (sources : List Source)
      → ((accepted : Accepted known source.principal table (source_text source)) → (rest : Reply) × IsReport table (known ++ known_of source.principal (length source.text) accepted.defined ∷ []) sources rest)
      → Accepted known source.principal table (source_text source) ⊎ ((rule : Rule) × (span : Span) × (names : List (List ℕ)) × FirstBreakOf known source.principal table (source_text source) rule span names)
      → (reply : Reply) × IsReport table known (source ∷ sources) reply
  report_by table known source sources behind (inl accepted) =
      let rest = behind accepted in (accepted_reply source (told_of table accepted.defined accepted.forms) rest.0, inl (accepted, rest.0, rest.1, refl))
  report_by table known source sources behind (inr first) =
      let broken : SourceBreak = record { rule = first.0; span = first.1; names = first.2 } in
      (refused_source_reply source broken, inr (broken, first.3, refl))

  report_there : (table : CostTable) (known : List Known) (sources : List Source) → (reply : Reply) × IsReport table known sources reply
  report_there table known [] = (all_checked, refl)
  report_there table known (source ∷ sources) =
      report_by table known source sources (λ accepted. report_there table (known ++ known_of source.principal (length source.text) accepted.defined ∷ []) sources)
      (each.source known source.principal table (source_text source))

  -- ---- `root` and `prove`

  root_there : (table : List CostFn) (file : FileSeen) → FileHasParts file → (node : NodeSeen) × IsSoundNode node × ((digest : List ℕ) → IsRoot digest node.state → HasRoot table file node.state digest)
  root_there table file parts =
      let run = each.runs (schedule_of table file) file parts in
      (run.1, each.ends (schedule_of table file) file run.0 run.1 parts run.2, λ digest is. record { results = run.0; after = run.1; runs = run.2; state_is = refl; is_root = is })

  root_reply_there : (table : List CostFn) (file : FileSeen) → FileHasParts file → (reply : Reply) × IsRootReply table file reply
  root_reply_there table file parts =
      let node = root_there table file parts in
      let root = each.root node.0 node.1 in
      (record { text = root_line root.0; status = Done }, record { state = node.0.state; digest = root.0; has_root = node.2 root.0 root.1; is = refl })

  proved_by : (node : NodeSeen) → IsSoundNode node → (digest : List ℕ) (number : ℕ) (text : List ℕ) (lines : IsStateText node.state text) (b : Bool) → nat_lt number (length lines.lines) ≡ b → (reply : Reply) × IsProved node.state number digest reply
  proved_by node sound digest number text lines false few =
      (record { text = root_line digest ++ codes "refused NoRow\n"; status = BadWord }, no_row (record { text = text; lines = lines; few = ltb-false number (length lines.lines) few }) refl)
  proved_by node sound digest number text lines true low =
      let within : number < length lines.lines = ltb-true number (length lines.lines) low in
      let line = get_or lines.lines number [] in
      let row = each.rows node sound line (lines.sound line (Contains-get_or lines.lines number [] within)) in
      let parts : lines.lines ≡ take number lines.lines ++ line ∷ drop (suc number) lines.lines = sym (take-append-drop number lines.lines) ∙ ap (λ (xs : List (List ℕ)). take number lines.lines ++ xs) (drop-cons lines.lines number [] within) in (
        record { text = root_line digest ++ (row_text row.row ++ flat_map side_line row.path); status = Done },
        proved row.row row.path (record {
          text = text;
          lines = lines;
          line = line;
          front = take number lines.lines;
          back = drop (suc number) lines.lines;
          is_line = parts;
          before = length-take-le number lines.lines (omega (arith, within));
          is_row = record { there = row.there; line_is = row.line_is; least = row.least };
          is_path = row.is_path;
        }) refl,
      )

  prove_reply_there : (table : List CostFn) (file : FileSeen) (number : ℕ) → FileHasParts file → (reply : Reply) × IsProveReply table file number reply
  prove_reply_there table file number parts =
      let node = root_there table file parts in
      let root = each.root node.0 node.1 in
      let text = each.text node.0 node.1 in
      let reply = proved_by node.0 node.1 root.0 number text.0 text.1 (nat_lt number (length text.1.lines)) refl in
      (reply.0, record { state = node.0.state; digest = root.0; has_root = node.2 root.0 root.1; is_proved = reply.1 })

  -- ---- `gen`

  generated_there : (seed count : ℕ) → (reply : Reply) × IsGenerated seed count reply
  generated_there seed count =
      let run = each.runs (always unit_table) (workload seed count) (workload_parts seed count) in
      let line = summary_line count (counts_of run.0) (supply_of (coins run.1.state)) (balance_of (coins run.1.state)) in
      (record { text = line; status = Done }, record { line = line; summary = record { results = run.0; after = run.1; runs = run.2; is = refl }; is = refl })

  -- ---- scripts

  script_there : (inputs : Inputs) → InputsHaveParts inputs → (script : Script) × IsScript inputs script
  script_there NoCommand parts = (script_of usage_reply, (usage_reply, refl, refl))
  script_there MissingFile parts = (record { steps = []; end = Err ReadFailed }, refl)
  script_there (BadFile name fault) parts = (script_of (bad_file_reply name fault), (bad_file_reply name fault, refl, refl))
  script_there (BadArgument outcome) parts = (script_of (no_value_reply outcome), (no_value_reply outcome, refl, refl))
  script_there (CallInputs source function args) parts = let r = called_there source function args parts in (script_of r.0, (r.0, r.1, refl))
  script_there (RunInputs table file state) parts = run_there table file state parts
  script_there (CheckInputs table sources) parts = let r = report_there (function_of table) [] sources in (script_of r.0, (r.0, r.1, refl))
  script_there (ValueInputs word) parts = (script_of (value_reply word), (value_reply word, refl, refl))
  script_there (WireInputs word) parts = let o = each.outcome word in (script_of (wire_reply o.0), (wire_reply o.0, (o.0, o.1, refl), refl))
  script_there (GenInputs seed count) parts = let r = generated_there seed count in (script_of r.0, (r.0, r.1, refl))
  script_there (TraceInputs table file) parts = each.traces table file parts
  script_there (AuditInputs table file claims report) parts = let r = each.audits table file claims report parts.0 parts.1 in (script_of r.0, (r.0, r.1, refl))
  script_there (RootInputs table file) parts = let r = root_reply_there table file parts in (script_of r.0, (r.0, r.1, refl))
  script_there (ProveInputs table file number) parts = let r = prove_reply_there table file number parts in (script_of r.0, (r.0, r.1, refl))
  script_there (VerifyInputs root key value sides) parts = (script_of (verify_reply root key value sides), (verify_reply root key value sides, refl, refl))

  pub each_has_script : EachHasScript
  each_has_script command files =
      let f = command_found command files in
      let s = script_there f.inputs f.parts in
      (s.0, record { asked = f.asked; inputs = f.inputs; read = f.read; is = s.1 })
