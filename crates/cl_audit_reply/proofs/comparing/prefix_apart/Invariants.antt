use Rattle.std.proofs.Common.{◌≡◌, drop}
use Rattle.cl_audit_reply.specs.Verdicts.{prefix_apart}
use Rattle.cl_audit_reply.proofs.Apart.{later}
use Rattle.cl_audit_reply.proofs.comparing.prefix_apart.Given as goal

abbrev pub invariant-loop-at : goal.invariant-loop-at
invariant-loop-at l = prefix_apart l.text l.whole ≡ later l.at (prefix_apart (drop l.at l.text) (drop l.at l.whole))
