-- What is read of files, one after another.
use Rattle.std.proofs.Common.{◌≡◌, ℕ, IfOk, ◌≤◌, Bool, true, false, List, [], ◌∷◌, length, Option, Some, None, Ok, Err, refl, sym, ap, subst, ◌∙◌}
use Rattle.std.specs.Prelude.{Result, option_map, if◌then◌else◌}
use Rattle.std.proofs.lemmas.Bool.{le-ltb, lt-ltb}
use Rattle.cl_shapes.specs.declared.function.CostFn.{CostFn}
use Rattle.cl_ports.specs.Files.{Held, IsContent, IsLongContent}
use Rattle.cl_ports.specs.Growth.{Grows, GrowsPart}
use Rattle.cl_ports.proofs.Grown.{part_next, part_more}
use Rattle.cl_ports.specs.declared.TheConstants.{MAX_FILE_BYTES}
use Rattle.cl_forms.specs.declared.version.Version.{Version}
use Rattle.cl_file.specs.Files.{FileSeen}
use Rattle.cl_file.specs.Laws.{OneFile}
use Rattle.cl_audit_walk.specs.declared.cursor.Claim.{Claim}
use Rattle.cl_replies.specs.declared.inputs.FileFault.{FileFault}
use Rattle.cl_replies.specs.declared.inputs.FileFault.TheVariants.{TooLong}
use Rattle.cl_values.specs.Tree.{Tree}
use Rattle.cl_forms.specs.Texts.{text_of}
use Rattle.cl_words.specs.Argument.{Arguments, Spell}
use Rattle.cl_words.specs.Words.{Call}
use Rattle.cl_replies.specs.declared.inputs.Inputs.{Inputs as InputsOfCode}
use Rattle.cl_replies.specs.Inputs.{Inputs, BadFile, CallInputs, inputs_seen}
use Rattle.cl_app.proofs.Once.{OneOutcome, spell_same, transactions_of_same}
use Rattle.cl_app.specs.Reading.{AreInputs, AsksPart, CallSuits, AreClaimsAt, AreCostsAt, AreTransactionsAt, Asks, FileResult, Gives, IsTextAt, IsTransactionsOf, Reads, claims_by, claims_in, costs_in, costs_of, ends_with, is_long, reads_audited, reads_called, reads_entries, reads_file, reads_file_of_entries, reads_transactions, text_in, text_result}

-- ---- the bytes of a file

result_by : (bytes : List ℕ) (long : Bool) → is_long bytes ≡ long → (if long then Err TooLong else Ok bytes) ≡ text_result bytes
result_by bytes long is = ap (λ (b : Bool). if b then Err TooLong else Ok bytes) (sym is)

pub text_is : (held : Option Held) (name bytes : List ℕ) → length bytes ≤ MAX_FILE_BYTES → IsContent held name bytes → IsTextAt held name (Ok bytes)
text_is held name bytes short content =
    record { told = λ files h. ap (option_map text_result) (content.told files h) ∙ ap Some (sym (result_by bytes false (le-ltb MAX_FILE_BYTES (length bytes) short))) }

pub text_is_long : (held : Option Held) (name : List ℕ) → IsLongContent held name → IsTextAt held name (Err TooLong)
text_is_long held name content = record {
  told = λ files h.
      let long = content.told files h in
      ap (option_map text_result) long.1 ∙ ap Some (sym (result_by long.0 true (lt-ltb MAX_FILE_BYTES (length long.0) long.2)));
}

-- ---- a file of each format

pub costs_are : (held : Option Held) (name : List ℕ) (text : Result (List ℕ) FileFault) (table : Result (List CostFn) FileFault) → IsTextAt held name text → table ≡ costs_of text → AreCostsAt held name table
costs_are held name text table at is = record { told = λ files h. ap (option_map costs_of) (at.told files h) ∙ ap Some (sym is) }

pub transactions_are : (held : Option Held) (name : List ℕ) (text : Result (List ℕ) FileFault) (file : Result FileSeen FileFault) → IsTextAt held name text → IsTransactionsOf (Some text) (Some file) → AreTransactionsAt held name file
transactions_are held name text file at is = record { told = λ files h. subst (λ (t : FileResult (List ℕ)). IsTransactionsOf t (Some file)) (sym (at.told files h)) is }

pub claims_are : (held : Option Held) (name : List ℕ) (entries : ℕ) (text : Result (List ℕ) FileFault) (claims : Result (List (List Claim)) FileFault) → IsTextAt held name text → claims ≡ claims_by entries text → AreClaimsAt held name entries claims
claims_are held name entries text claims at is = record { told = λ files h. ap (option_map (claims_by entries)) (at.told files h) ∙ ap Some (sym is) }

-- ---- one file, and what is read behind it

-- each of them begins with its name
pub asks_first : {X : Type 0} (name : List ℕ) (result : FileResult X) (Then : X → Reads) (asked : List (List ℕ)) (inputs : Inputs) → reads_file name result Then asked inputs → (more : List (List ℕ)) × (asked ≡ name ∷ more)
asks_first name None Then asked inputs is = ([], is.0)
asks_first name (Some (Err fault)) Then asked inputs is = ([], is.0)
asks_first name (Some (Ok x)) Then asked inputs is = (is.0, is.1)

-- a first part of the first name
part_of_first : {X : Type 0} (name : List ℕ) (result : FileResult X) (Then : X → Reads) (asked : List (List ℕ)) (inputs : Inputs) (before now : Option (List (List ℕ))) → reads_file name result Then asked inputs → GrowsPart before now (name ∷ []) → GrowsPart before now asked
part_of_first name result Then asked inputs before now is grown =
    let first = asks_first name result Then asked inputs is in
    subst (GrowsPart before now) (sym first.1) (part_more before now (name ∷ []) first.0 grown)

pub asks_one : {X : Type 0} (name : List ℕ) (find : Held → FileResult X) (Then : Held → X → Reads) (held : Option Held) (before now : Option (List (List ℕ))) → GrowsPart before now (name ∷ []) → Asks (λ files. reads_file name (find files) (Then files)) held before now
asks_one name find Then held before now grown = record { told = λ files asked inputs h is. part_of_first name (find files) (Then files) asked inputs before now is grown }

-- where the first is good, a first part of the others
pub asks_behind : {X : Type 0} (name : List ℕ) (find : Held → FileResult X) (Then : Held → X → Reads) (x : X) (held : Option Held) (before between now : Option (List (List ℕ))) → ((files : Held) → held ≡ Some files → find files ≡ Some (Ok x)) → Grows before between (name ∷ []) → Asks (λ files. Then files x) held between now
    → Asks (λ files. reads_file name (find files) (Then files)) held before now
asks_behind {X} name find Then x held before between now good first behind = record { told = so }
  where
    so : (files : Held) (asked : List (List ℕ)) (inputs : Inputs) → held ≡ Some files → reads_file name (find files) (Then files) asked inputs → GrowsPart before now asked
    so files asked inputs h is =
        let there = subst (λ (r : FileResult X). reads_file name r (Then files) asked inputs) (good files h) is in
        subst (GrowsPart before now) (sym there.1) (part_next before between now (name ∷ []) there.0 first (behind.told files there.0 inputs h there.2))

pub gives_bad : {X : Type 0} (name : List ℕ) (find : Held → FileResult X) (Then : Held → X → Reads) (fault : FileFault) (held : Option Held) → ((files : Held) → held ≡ Some files → find files ≡ Some (Err fault)) → Gives (λ files. reads_file name (find files) (Then files)) held (BadFile name fault)
gives_bad {X} name find Then fault held bad =
    record { told = λ files h. (name ∷ [], subst (λ (r : FileResult X). reads_file name r (Then files) (name ∷ []) (BadFile name fault)) (sym (bad files h)) (refl, refl)) }

pub gives_behind : {X : Type 0} (name : List ℕ) (find : Held → FileResult X) (Then : Held → X → Reads) (x : X) (held : Option Held) (inputs : Inputs) → ((files : Held) → held ≡ Some files → find files ≡ Some (Ok x)) → Gives (λ files. Then files x) held inputs → Gives (λ files. reads_file name (find files) (Then files)) held inputs
gives_behind {X} name find Then x held inputs good behind = record {
  told = λ files h.
      let there = behind.told files h in
      (name ∷ there.0, subst (λ (r : FileResult X). reads_file name r (Then files) (name ∷ there.0) inputs) (sym (good files h)) (there.0, refl, there.1));
}

pub gives_end : (held : Option Held) (inputs : Inputs) → Gives (λ files. ends_with inputs) held inputs
gives_end held inputs = record { told = λ files h. ([], (refl, refl)) }

pub asks_nothing : (Is : Held → Reads) (held : Option Held) (before now : Option (List (List ℕ))) → GrowsPart before now [] → Asks Is held before now
asks_nothing Is held before now grown = record { told = λ files asked inputs h is. part_more before now [] asked grown }

-- ---- a transaction file, and what is read behind it

module _ (file : List ℕ) (Then : Held → FileSeen → Reads) (held : Option Held) where
  abbrev OfEntries : Held → Reads
  OfEntries files = reads_file_of_entries files file (Then files)

  pub file_asks_first : (before now : Option (List (List ℕ))) → GrowsPart before now (file ∷ []) → Asks OfEntries held before now
  file_asks_first before now grown = record { told = λ files asked inputs h is. part_of_first file is.0 (Then files) asked inputs before now is.2 grown }

  pub file_asks_more : OneFile → (f : FileSeen) (before between now : Option (List (List ℕ))) → AreTransactionsAt held file (Ok f) → Grows before between (file ∷ []) → Asks (λ files. Then files f) held between now → Asks OfEntries held before now
  file_asks_more once f before between now at first behind = record { told = so }
    where
      so : (files : Held) (asked : List (List ℕ)) (inputs : Inputs) → held ≡ Some files → OfEntries files asked inputs → GrowsPart before now asked
      so files asked inputs h is =
          let same : is.0 ≡ Some (Ok f) = transactions_of_same once (text_in files file) is.0 (Some (Ok f)) is.1 (at.told files h) in
          let there = subst (λ (r : FileResult FileSeen). reads_file file r (Then files) asked inputs) same is.2 in
          subst (GrowsPart before now) (sym there.1) (part_next before between now (file ∷ []) there.0 first (behind.told files there.0 inputs h there.2))

  pub file_bad : (fault : FileFault) → AreTransactionsAt held file (Err fault) → Gives OfEntries held (BadFile file fault)
  file_bad fault at = record { told = λ files h. (file ∷ [], (Some (Err fault), at.told files h, (refl, refl))) }

  pub file_gives : (f : FileSeen) (inputs : Inputs) → AreTransactionsAt held file (Ok f) → Gives (λ files. Then files f) held inputs → Gives OfEntries held inputs
  file_gives f inputs at behind = record {
    told = λ files h.
        let there = behind.told files h in
        (file ∷ there.0, (Some (Ok f), at.told files h, (there.0, refl, there.1)));
  }

-- ---- a cost file and a transaction file

module _ (costs file : List ℕ) (found : List CostFn → FileSeen → Inputs) (held : Option Held) where
  abbrev pub Entries : Held → Reads
  Entries files = reads_entries files costs file found

  pub entries_ask_first : (before now : Option (List (List ℕ))) → GrowsPart before now (costs ∷ []) → Asks Entries held before now
  entries_ask_first before now grown = asks_one costs (λ files. costs_in files costs) (λ files table. reads_transactions files file (found table)) held before now grown

  pub entries_ask : (table : List CostFn) (before between now : Option (List (List ℕ))) → AreCostsAt held costs (Ok table) → Grows before between (costs ∷ []) → GrowsPart between now (file ∷ []) → Asks Entries held before now
  entries_ask table before between now at first part =
      asks_behind costs (λ files. costs_in files costs) (λ files table. reads_transactions files file (found table)) table held before between now at.told first (file_asks_first file (λ files f. ends_with (found table f)) held between now part)

  pub entries_bad_costs : (fault : FileFault) → AreCostsAt held costs (Err fault) → Gives Entries held (BadFile costs fault)
  entries_bad_costs fault at = gives_bad costs (λ files. costs_in files costs) (λ files table. reads_transactions files file (found table)) fault held at.told

  pub entries_bad_file : (table : List CostFn) (fault : FileFault) → AreCostsAt held costs (Ok table) → AreTransactionsAt held file (Err fault) → Gives Entries held (BadFile file fault)
  entries_bad_file table fault at there =
      gives_behind costs (λ files. costs_in files costs) (λ files table. reads_transactions files file (found table)) table held (BadFile file fault) at.told
      (file_bad file (λ files f. ends_with (found table f)) held fault there)

  pub entries_give : (table : List CostFn) (f : FileSeen) → AreCostsAt held costs (Ok table) → AreTransactionsAt held file (Ok f) → Gives Entries held (found table f)
  entries_give table f at there =
      gives_behind costs (λ files. costs_in files costs) (λ files table. reads_transactions files file (found table)) table held (found table f) at.told
      (file_gives file (λ files f. ends_with (found table f)) held f (found table f) there (gives_end held (found table f)))

-- ---- a trace file and a report

module _ (trace report : List ℕ) (entries : ℕ) (found : List (List Claim) → List ℕ → Inputs) (held : Option Held) where
  abbrev Audits : Held → Reads
  Audits files = reads_audited files trace report entries found

  abbrev BehindTrace : Held → List (List Claim) → Reads
  BehindTrace files claims = reads_file report (text_in files report) (λ text. ends_with (found claims text))

  pub audited_ask_first : (before now : Option (List (List ℕ))) → GrowsPart before now (trace ∷ []) → Asks Audits held before now
  audited_ask_first before now grown = asks_one trace (λ files. claims_in files trace entries) BehindTrace held before now grown

  pub audited_ask : (claims : List (List Claim)) (before between now : Option (List (List ℕ))) → AreClaimsAt held trace entries (Ok claims) → Grows before between (trace ∷ []) → GrowsPart between now (report ∷ []) → Asks Audits held before now
  audited_ask claims before between now at first part =
      asks_behind trace (λ files. claims_in files trace entries) BehindTrace claims held before between now at.told first
      (asks_one report (λ files. text_in files report) (λ files text. ends_with (found claims text)) held between now part)

  pub audited_bad_trace : (fault : FileFault) → AreClaimsAt held trace entries (Err fault) → Gives Audits held (BadFile trace fault)
  audited_bad_trace fault at = gives_bad trace (λ files. claims_in files trace entries) BehindTrace fault held at.told

  pub audited_bad_report : (claims : List (List Claim)) (fault : FileFault) → AreClaimsAt held trace entries (Ok claims) → IsTextAt held report (Err fault) → Gives Audits held (BadFile report fault)
  audited_bad_report claims fault at there =
      gives_behind trace (λ files. claims_in files trace entries) BehindTrace claims held (BadFile report fault) at.told
      (gives_bad report (λ files. text_in files report) (λ files text. ends_with (found claims text)) fault held there.told)

  pub audited_give : (claims : List (List Claim)) (text : List ℕ) → AreClaimsAt held trace entries (Ok claims) → IsTextAt held report (Ok text) → Gives Audits held (found claims text)
  audited_give claims text at there =
      gives_behind trace (λ files. claims_in files trace entries) BehindTrace claims held (found claims text) at.told
      (gives_behind report (λ files. text_in files report) (λ files text. ends_with (found claims text)) text held (found claims text) there.told (gives_end held (found claims text)))

-- ---- the source of `call`

module _ (file function : List ℕ) (version : Version) (args : List Tree) (held : Option Held) where
  abbrev Called : Held → Reads
  Called files = reads_called files file function version (Ok args)

  pub called_give : (text : List ℕ) → IsTextAt held file (Ok text) → Gives Called held (CallInputs (text_of text version) function args)
  called_give text at =
      gives_behind file (λ files. text_in files file) (λ files text. ends_with (CallInputs (text_of text version) function args)) text held (CallInputs (text_of text version) function args) at.told
      (gives_end held (CallInputs (text_of text version) function args))

  pub called_bad : (fault : FileFault) → IsTextAt held file (Err fault) → Gives Called held (BadFile file fault)
  called_bad fault at = gives_bad file (λ files. text_in files file) (λ files text. ends_with (CallInputs (text_of text version) function args)) fault held at.told

  pub called_inputs : {E : Type 0} (words : List (List ℕ)) (r : Result InputsOfCode E) → Spell words (Ok args) → IfOk r (λ i. Gives Called held (inputs_seen i)) → IfOk r (λ i. CallSuits function version (Ok args) (inputs_seen i)) → IfOk r (λ i. AreInputs (Some (Call file function words version)) held (inputs_seen i))
  called_inputs words (Ok i) spelled gives suits = record {
    suits = (Ok args, spelled, suits);
    gives = record { told = λ files h. let there = gives.told files h in (there.0, (Ok args, spelled, there.1)) };
  }
  called_inputs words (Err e) spelled gives suits = tt

  pub called_asks : OneOutcome → (words : List (List ℕ)) (before now : Option (List (List ℕ))) → Spell words (Ok args) → GrowsPart before now (file ∷ []) → AsksPart (Some (Call file function words version)) held before now
  called_asks one words before now spelled grown = record {
    told = λ files asked inputs h is.
        part_of_first file (text_in files file) (λ text. ends_with (CallInputs (text_of text version) function args)) asked inputs before now
        (subst (λ (a : Arguments). reads_called files file function version a asked inputs) (spell_same one words is.0 (Ok args) is.1 spelled) is.2) grown;
  }

-- ---- what is held stays

pub transactions_kept : (a b : Option Held) (name : List ℕ) (r : Result FileSeen FileFault) → a ≡ b → AreTransactionsAt a name r → AreTransactionsAt b name r
transactions_kept a b name r same = subst (λ (h : Option Held). AreTransactionsAt h name r) same

pub text_kept : (a b : Option Held) (name : List ℕ) (r : Result (List ℕ) FileFault) → a ≡ b → IsTextAt a name r → IsTextAt b name r
text_kept a b name r same = subst (λ (h : Option Held). IsTextAt h name r) same
