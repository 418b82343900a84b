-- The inputs of commands, by what was read.
use Rattle.std.proofs.Common.{◌≡◌, inl, ℕ, List, [], ◌∷◌, length, Option, Some, Result, Ok, Err, IfOk, refl, sym, subst}
use Rattle.cl_c32.specs.Address.{AddressParts}
use Rattle.cl_shapes.specs.declared.function.CostFn.{CostFn}
use Rattle.cl_ports.specs.Files.{Held}
use Rattle.cl_ports.specs.Growth.{Grows, GrowsPart}
use Rattle.cl_ports.proofs.Grown.{part_more}
use Rattle.cl_forms.specs.declared.version.Version.{Version}
use Rattle.cl_file.specs.Files.{FileSeen}
use Rattle.cl_file.specs.Laws.{OneFile}
use Rattle.cl_words.specs.Words.{Audit, Command, Check}
use Rattle.cl_replies.specs.declared.inputs.FileFault.{FileFault}
use Rattle.cl_replies.specs.declared.inputs.Inputs.{Inputs as InputsOfCode}
use Rattle.cl_replies.specs.Inputs.{AuditInputs, Inputs, BadFile, inputs_seen}
use Rattle.cl_app.specs.Reading.{AreCostsAt, AreInputs, AreTransactionsAt, Asks, AsksPart, AuditSuits, CommandReads, Gives, Reads, Suits, costs_in, reads_audited, reads_file_of_entries}
use Rattle.cl_app.proofs.Read.{asks_behind, asks_one, file_asks_first, file_asks_more, file_bad, file_gives, gives_bad, gives_behind}
use Rattle.cl_app.proofs.Sources.{CheckReads}

-- ---- commands that read nothing

pub read_nothing : (command : Option Command) (held : Option Held) (inputs : Inputs) → Suits command inputs → ((files : Held) → CommandReads command files [] inputs) → AreInputs command held inputs
read_nothing command held inputs suits reads = record { suits = suits; gives = record { told = λ files h. ([], reads files) } }

pub ask_nothing : (command : Option Command) (held : Option Held) (before now : Option (List (List ℕ))) → GrowsPart before now [] → AsksPart command held before now
ask_nothing command held before now grown = record { told = λ files asked inputs h is. part_more before now [] asked grown }

-- ---- commands of entries, and `call`

pub inputs_are : {E : Type 0} (command : Option Command) (held : Option Held) (r : Result InputsOfCode E) → IfOk r (λ i. Gives (CommandReads command) held (inputs_seen i)) → IfOk r (λ i. Suits command (inputs_seen i)) → IfOk r (λ i. AreInputs command held (inputs_seen i))
inputs_are command held (Ok i) gives suits = record { suits = suits; gives = gives }
inputs_are command held (Err e) gives suits = tt

pub inputs_by : {E : Type 0} (seen command : Option Command) (held : Option Held) (r : Result InputsOfCode E) → seen ≡ command → IfOk r (λ i. Gives (CommandReads command) held (inputs_seen i)) → IfOk r (λ i. Suits command (inputs_seen i)) → IfOk r (λ i. AreInputs seen held (inputs_seen i))
inputs_by seen command held r same gives suits = subst (λ (x : Option Command). IfOk r (λ i. AreInputs x held (inputs_seen i))) (sym same) (inputs_are command held r gives suits)

pub asks_by : (seen command : Option Command) (held : Option Held) (before now : Option (List (List ℕ))) → seen ≡ command → AsksPart command held before now → AsksPart seen held before now
asks_by seen command held before now same asks = subst (λ (x : Option Command). AsksPart x held before now) (sym same) asks

-- ---- `check`

module _ (costs : List ℕ) (address : AddressParts) (paths : List (List ℕ)) (version : Version) (held : Option Held) where
  abbrev Checks : Option Command
  Checks = Some (Check costs address paths version)

  abbrev Behind : Held → List CostFn → Reads
  Behind files table = CheckReads table address version paths files

  pub check_bad_costs : (fault : FileFault) → AreCostsAt held costs (Err fault) → AreInputs Checks held (BadFile costs fault)
  check_bad_costs fault at = record { suits = inl (costs, fault, refl); gives = gives_bad costs (λ files. costs_in files costs) Behind fault held at.told }

  pub check_gives : (table : List CostFn) (inputs : Inputs) → AreCostsAt held costs (Ok table) → Suits Checks inputs → Gives (CheckReads table address version paths) held inputs → AreInputs Checks held inputs
  check_gives table inputs at suits gives = record { suits = suits; gives = gives_behind costs (λ files. costs_in files costs) Behind table held inputs at.told gives }

  pub check_asks_first : (before now : Option (List (List ℕ))) → GrowsPart before now (costs ∷ []) → AsksPart Checks held before now
  check_asks_first before now grown = asks_one costs (λ files. costs_in files costs) Behind held before now grown

  pub check_asks_more : (table : List CostFn) (before between now : Option (List (List ℕ))) → AreCostsAt held costs (Ok table) → Grows before between (costs ∷ []) → Asks (CheckReads table address version paths) held between now → AsksPart Checks held before now
  check_asks_more table before between now at first behind = asks_behind costs (λ files. costs_in files costs) Behind table held before between now at.told first behind

-- ---- what is held stays

pub gives_kept : (Is : Held → Reads) (a b : Option Held) (inputs : Inputs) → a ≡ b → Gives Is a inputs → Gives Is b inputs
gives_kept Is a b inputs same = subst (λ (h : Option Held). Gives Is h inputs) same

pub asks_kept : (Is : Held → Reads) (a b : Option Held) (before now : Option (List (List ℕ))) → a ≡ b → Asks Is a before now → Asks Is b before now
asks_kept Is a b before now same = subst (λ (h : Option Held). Asks Is h before now) same

-- ---- `audit`

-- what is read behind the cost file
abbrev pub AuditReads : List CostFn → List ℕ → List ℕ → List ℕ → Held → Reads
AuditReads table file trace report files = reads_file_of_entries files file (λ f. reads_audited files trace report (length f.entries) (AuditInputs table f))

module _ (table : List CostFn) (file trace report : List ℕ) (held : Option Held) where
  abbrev BehindFile : Held → FileSeen → Reads
  BehindFile files f = reads_audited files trace report (length f.entries) (AuditInputs table f)

  pub audited_file_asks_first : (before now : Option (List (List ℕ))) → GrowsPart before now (file ∷ []) → Asks (AuditReads table file trace report) held before now
  audited_file_asks_first before now grown = file_asks_first file BehindFile held before now grown

  pub audited_file_bad : (fault : FileFault) → AreTransactionsAt held file (Err fault) → Gives (AuditReads table file trace report) held (BadFile file fault)
  audited_file_bad fault at = file_bad file BehindFile held fault at

  module _ (f : FileSeen) (entries : ℕ) (after : Option Held) (at : AreTransactionsAt held file (Ok f)) (count : entries ≡ length f.entries) (kept : after ≡ held) where
    -- its trace file and its report
    abbrev OfFile : ℕ → Held → Reads
    OfFile n files = reads_audited files trace report n (AuditInputs table f)

    pub audited_file_gives : (inputs : Inputs) → Gives (OfFile entries) after inputs → Gives (AuditReads table file trace report) held inputs
    audited_file_gives inputs behind =
        file_gives file BehindFile held f inputs at (gives_kept (OfFile (length f.entries)) after held inputs kept (subst (λ (n : ℕ). Gives (OfFile n) after inputs) count behind))

    pub audited_file_asks_more : OneFile → (before between now : Option (List (List ℕ))) → Grows before between (file ∷ []) → Asks (OfFile entries) after between now → Asks (AuditReads table file trace report) held before now
    audited_file_asks_more one before between now first behind =
        file_asks_more file BehindFile held one f before between now at first
        (asks_kept (OfFile (length f.entries)) after held between now kept (subst (λ (n : ℕ). Asks (OfFile n) after between now) count behind))

module _ (costs file trace report : List ℕ) (held : Option Held) where
  abbrev Audits : Option Command
  Audits = Some (Audit costs file trace report)

  abbrev BehindCosts : Held → List CostFn → Reads
  BehindCosts files table = AuditReads table file trace report files

  pub audit_bad_costs : (fault : FileFault) → AreCostsAt held costs (Err fault) → AreInputs Audits held (BadFile costs fault)
  audit_bad_costs fault at = record { suits = inl (costs, fault, refl); gives = gives_bad costs (λ files. costs_in files costs) BehindCosts fault held at.told }

  pub audit_gives : {E : Type 0} (table : List CostFn) (after : Option Held) (r : Result InputsOfCode E) → AreCostsAt held costs (Ok table) → after ≡ held → IfOk r (λ i. Gives (AuditReads table file trace report) after (inputs_seen i)) → IfOk r (λ i. AuditSuits (inputs_seen i)) → IfOk r (λ i. AreInputs Audits held (inputs_seen i))
  audit_gives table after (Ok i) at same gives suits = record {
    suits = suits;
    gives = gives_behind costs (λ files. costs_in files costs) BehindCosts table held (inputs_seen i) at.told (gives_kept (AuditReads table file trace report) after held (inputs_seen i) same gives);
  }
  audit_gives table after (Err e) at same gives suits = tt

  pub audit_asks_first : (before now : Option (List (List ℕ))) → GrowsPart before now (costs ∷ []) → AsksPart Audits held before now
  audit_asks_first before now grown = asks_one costs (λ files. costs_in files costs) BehindCosts held before now grown

  pub audit_asks_more : (table : List CostFn) (after : Option Held) (before between now : Option (List (List ℕ))) → AreCostsAt held costs (Ok table) → after ≡ held → Grows before between (costs ∷ []) → Asks (AuditReads table file trace report) after between now → AsksPart Audits held before now
  audit_asks_more table after before between now at same first behind =
      asks_behind costs (λ files. costs_in files costs) BehindCosts table held before between now at.told first (asks_kept (AuditReads table file trace report) after held between now same behind)
