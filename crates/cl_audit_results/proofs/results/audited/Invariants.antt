use Rattle.std.proofs.Common.{take}
use Rattle.cl_audit_results.specs.Audits.{claims_of}
use Rattle.cl_audit_results.proofs.Reached.{Reaches}
use Rattle.cl_audit_results.proofs.results.audited.Given as goal

abbrev pub invariant-loop-at : goal.invariant-loop-at
invariant-loop-at l = Reaches l.costs l.file.genesis (take l.at l.file.entries) (claims_of (take l.at l.traces)) l.results.items l.node
