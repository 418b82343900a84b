use Rattle.std.proofs.Common.{length}
use Rattle.cl_audit_results.specs.Audits.{claims_of}
use Rattle.cl_audit_reply.proofs.TraceFiles.{IsReadTo}
use Rattle.cl_audit_reply.proofs.reading.read_traces.Given as goal

abbrev pub invariant-loop-rest : goal.invariant-loop-rest
invariant-loop-rest l = IsReadTo l.entries l.text l.rest l.least l.count (claims_of l.traces.items)

abbrev pub decreases-loop-rest : goal.decreases-loop-rest
decreases-loop-rest l = length l.rest
