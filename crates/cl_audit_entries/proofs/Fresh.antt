-- A cursor that looked at no claim.
use Rattle.std.proofs.Common.{◌≡◌, false}
use Rattle.cl_audit_walk.specs.declared.cursor.Cursor.{Cursor}
use Rattle.cl_audit_entries.specs.Seen.{IsFresh}

pub fresh_is : (k : Cursor) → IsFresh k → k ≡ record k { at = 0; differs = false }
fresh_is k h = λ i. record { claims = k.claims; at = h.first i; differs = h.agreed i }
