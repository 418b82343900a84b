-- Whether traces and results are those of a file.
use Rattle.std.specs.Prelude.{◌≡◌, ◌≢◌, ◌⊎◌, ℕ, zero, suc, true, List, [], ◌∷◌, length, map}
use Rattle.cl_costs.specs.Schedules.{ScheduleSeen}
use Rattle.cl_meaning.specs.Trace.{Claim as Told}
use Rattle.cl_file.specs.Files.{FileSeen}
use Rattle.cl_file.specs.declared.entry.Entry.{Entry}
use Rattle.cl_tx.specs.declared.outcome.TxResult.{TxResult}
use Rattle.cl_tx.specs.Nodes.{NodeSeen, Stepped}
use Rattle.cl_tx.specs.Step.{Runs, Steps, costs_for, first_node}
use Rattle.cl_nodes.specs.Traces.{IsTrace}
use Rattle.cl_audit_walk.specs.declared.cursor.Claim.{Claim}
use Rattle.cl_audit.specs.declared.trace.Trace.{Trace}
use Rattle.cl_audit.specs.Agrees.{FirstDifference, agree}
use Rattle.cl_audit_results.specs.declared.refusal.AuditRefusal.{AuditRefusal}
use Rattle.cl_audit_results.specs.declared.refusal.AuditRefusal.TheVariants.{Count, Claim as AtClaim, Differs}

-- ---- what a file means

-- the entries one after another, with their results and their traces, up to a node
abbrev pub Traced : ScheduleSeen → NodeSeen → List Entry → List TxResult → List (List Told) → NodeSeen → Type 0
Traced schedule node [] results traces after = (results ≡ []) × (traces ≡ []) × (after ≡ node)
Traced schedule node (e ∷ es) results traces after =
    (s : Stepped) × (told : List Told) × (more : List TxResult) × (rest : List (List Told)) × Steps schedule node e s × IsTrace (costs_for schedule node) node e s.result.outcome told
    × Traced schedule s.node es more rest after × (results ≡ s.result ∷ more) × (traces ≡ told ∷ rest)

-- the results and traces of a file's entries under a schedule
pub record FileTraced (schedule : ScheduleSeen) (file : FileSeen) (results : List TxResult) (traces : List (List Told)) : Type 0 where
  pub after : NodeSeen
  pub entries : Traced schedule (first_node file.genesis) file.entries results traces after

-- ---- what is given

abbrev pub claims_of : List Trace → List (List Claim)
claims_of traces = map (λ (t : Trace). t.claims.items) traces

-- each trace is that of its claims
abbrev pub AllAgree : List (List Told) → List (List Claim) → Type 0
AllAgree [] [] = Unit {0}
AllAgree (t ∷ ts) (c ∷ cs) = (agree t c ≡ true) × AllAgree ts cs
AllAgree ts cs = ⊥

-- something is so at the entry of this number, and before it the results are one and each trace is that of its claims
abbrev pub FirstAt : (TxResult → List Told → TxResult → List Claim → Type 0) → List TxResult → List (List Told) → List TxResult → List (List Claim) → ℕ → Type 0
FirstAt Here (m ∷ ms) (t ∷ ts) (r ∷ rs) (c ∷ cs) zero = Here m t r c
FirstAt Here (m ∷ ms) (t ∷ ts) (r ∷ rs) (c ∷ cs) (suc n) = (m ≡ r) × (agree t c ≡ true) × FirstAt Here ms ts rs cs n
FirstAt Here ms ts rs cs n = ⊥

-- the claims differ here first
abbrev pub ClaimDiffers : ℕ → TxResult → List Told → TxResult → List Claim → Type 0
ClaimDiffers n m t r c = FirstDifference t c n

-- the claims are the trace, and the result is another
abbrev pub ResultDiffers : TxResult → List Told → TxResult → List Claim → Type 0
ResultDiffers m t r c = (agree t c ≡ true) × (m ≢ r)

-- ---- what the auditor says

-- these are the results of the file, and the traces are its traces
pub record AreAudited (schedule : ScheduleSeen) (file : FileSeen) (traces : List Trace) (results : List TxResult) : Type 0 where
  pub after : NodeSeen
  pub runs : Runs schedule file results after
  pub told : List (List Told)
  pub traced : FileTraced schedule file results told
  pub agree : AllAgree told (claims_of traces)

-- why there are none
abbrev pub IsRefusal : ScheduleSeen → FileSeen → List Trace → AuditRefusal → Type 0
IsRefusal schedule file traces Count = length traces ≢ length file.entries
IsRefusal schedule file traces (AtClaim entry claim) =
    (meant : List TxResult) (told : List (List Told)) → FileTraced schedule file meant told → FirstAt (ClaimDiffers claim) meant told meant (claims_of traces) entry
IsRefusal schedule file traces (Differs entry) = ⊥

-- why these results, or these traces, are not those of the file
abbrev pub IsAuditRefusal : ScheduleSeen → FileSeen → List Trace → List TxResult → AuditRefusal → Type 0
IsAuditRefusal schedule file traces results Count = (length traces ≢ length file.entries) ⊎ (length results ≢ length file.entries)
IsAuditRefusal schedule file traces results (AtClaim entry claim) =
    (meant : List TxResult) (told : List (List Told)) → FileTraced schedule file meant told → FirstAt (ClaimDiffers claim) meant told results (claims_of traces) entry
IsAuditRefusal schedule file traces results (Differs entry) =
    (meant : List TxResult) (told : List (List Told)) → FileTraced schedule file meant told → FirstAt ResultDiffers meant told results (claims_of traces) entry

-- there are as many traces as entries, where the cause is another than their number
abbrev pub HasTraces : FileSeen → List Trace → AuditRefusal → Type 0
HasTraces file traces Count = Unit {0}
HasTraces file traces (AtClaim entry claim) = length traces ≡ length file.entries
HasTraces file traces (Differs entry) = length traces ≡ length file.entries

-- and as many results
abbrev pub HasResults : FileSeen → List TxResult → AuditRefusal → Type 0
HasResults file results Count = Unit {0}
HasResults file results (AtClaim entry claim) = length results ≡ length file.entries
HasResults file results (Differs entry) = length results ≡ length file.entries
