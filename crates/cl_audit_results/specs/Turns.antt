-- One entry, audited.
use Rattle.std.specs.Prelude.{◌≡◌, ◌≤◌, ℕ, List, get_or}
use Rattle.cl_costs.specs.Schedules.{ScheduleSeen}
use Rattle.cl_file.specs.Entries.{height_after}
use Rattle.cl_file.specs.declared.entry.Entry.{Entry}
use Rattle.cl_tx.specs.declared.outcome.TxResult.{TxResult}
use Rattle.cl_nodes.specs.Seen.{Seen}
use Rattle.cl_nodes.specs.Steps.{Makes}
use Rattle.cl_audit_walk.specs.declared.cursor.Claim.{Claim}
use Rattle.cl_audit.specs.declared.agreeing.Agreement.TheVariants.{Agrees, DiffersAt}
use Rattle.cl_audit.specs.declared.trace.Trace.{Trace}
use Rattle.cl_audit_entries.specs.Agreeing.{AgreesWith}
use Rattle.cl_audit_results.specs.declared.refusal.AuditRefusal.{AuditRefusal}
use Rattle.cl_audit_results.specs.declared.refusal.AuditRefusal.TheVariants.{Count, Claim as AtClaim, Differs}

-- the claims are the trace of an entry, and this is its result
pub record IsAudited (schedule : ScheduleSeen) (before : Seen) (entry : Entry) (claims : List Claim) (result : TxResult) (after : Seen) : Type 0 where
  pub makes : Makes schedule before entry result after
  pub agrees : AgreesWith schedule before entry result.outcome claims Agrees

-- the claims differ from the trace of an entry here first
pub record DiffersFirst (schedule : ScheduleSeen) (before : Seen) (entry : Entry) (claims : List Claim) (place : ℕ) : Type 0 where
  pub result : TxResult
  pub after : Seen
  pub makes : Makes schedule before entry result after
  pub agrees : AgreesWith schedule before entry result.outcome claims (DiffersAt place)

-- why the auditor says no at the entry of this number
abbrev pub IsRefusedAt : ℕ → ScheduleSeen → Seen → Entry → List Claim → AuditRefusal → Type 0
IsRefusedAt number schedule before entry claims (AtClaim at place) = (at ≡ number) × DiffersFirst schedule before entry claims place
IsRefusedAt number schedule before entry claims Count = ⊥
IsRefusedAt number schedule before entry claims (Differs at) = ⊥

-- ---- the entry at a place of a file

-- the entry at this place may follow a node of this height
abbrev pub MayFollow : ℕ → List Entry → ℕ → Type 0
MayFollow height entries at = (e : Entry) → e ≡ get_or entries at e → height ≤ height_after height e

-- the claims at this place are the trace of the entry there, and this is its result
abbrev pub IsAuditedAt : ScheduleSeen → Seen → List Entry → List Trace → ℕ → TxResult → Seen → Type 0
IsAuditedAt schedule before entries traces at result after =
    (e : Entry) (t : Trace) → e ≡ get_or entries at e → t ≡ get_or traces at t → IsAudited schedule before e t.claims.items result after

-- or this is why not
abbrev pub IsRefusedFor : ScheduleSeen → Seen → List Entry → List Trace → ℕ → AuditRefusal → Type 0
IsRefusedFor schedule before entries traces at why =
    (e : Entry) (t : Trace) → e ≡ get_or entries at e → t ≡ get_or traces at t → IsRefusedAt at schedule before e t.claims.items why
