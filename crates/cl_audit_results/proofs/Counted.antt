-- Numbers of traces and results, where a cause is given.
use Rattle.std.proofs.Common.{◌≡◌, List, length}
use Rattle.cl_file.specs.Files.{FileSeen}
use Rattle.cl_tx.specs.declared.outcome.TxResult.{TxResult}
use Rattle.cl_audit.specs.declared.trace.Trace.{Trace}
use Rattle.cl_audit_results.specs.declared.refusal.AuditRefusal.{AuditRefusal}
use Rattle.cl_audit_results.specs.declared.refusal.AuditRefusal.TheVariants.{Count, Claim as AtClaim, Differs}
use Rattle.cl_audit_results.specs.Audits.{HasResults, HasTraces}

pub has_traces : (file : FileSeen) (traces : List Trace) → length traces ≡ length file.entries → (why : AuditRefusal) → HasTraces file traces why
has_traces file traces h Count = tt
has_traces file traces h (AtClaim entry claim) = h
has_traces file traces h (Differs entry) = h

pub has_results : (file : FileSeen) (results : List TxResult) → length results ≡ length file.entries → (why : AuditRefusal) → HasResults file results why
has_results file results h Count = tt
has_results file results h (AtClaim entry claim) = h
has_results file results h (Differs entry) = h
