use Rattle.cl_audit_reply.proofs.Apart.{IsSoFar}
use Rattle.cl_audit_reply.proofs.comparing.report_apart.Given as goal

abbrev pub invariant-loop-number : goal.invariant-loop-number
invariant-loop-number l = IsSoFar l.text l.entries l.results l.number l.done
