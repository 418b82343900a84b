use Rattle.std.proofs.Common.{◌≡◌, [], replicate}
use Rattle.cl_audit_results.specs.Audits.{claims_of}
use Rattle.cl_audit_reply.proofs.reading.empty_traces.Given as goal

abbrev pub invariant-loop : goal.invariant-loop
invariant-loop l = claims_of l.traces.items ≡ replicate l.counter []
