use Rattle.std.proofs.Common.{sym, arith}
use Rattle.cl_audit_reply.proofs.Apart.{prefix_parts}
use Rattle.cl_audit_reply.proofs.comparing.prefix_apart.Goals.{then-at-whole-via-then-at-whole, then-at-whole-via-else-at-whole+then-text-at}
use Rattle.cl_audit_reply.proofs.comparing.prefix_apart.Goals as goal

pub returns-then-at-whole : goal.returns-then-at-whole
returns-then-at-whole c = sym (prefix_parts c.args.text.now c.args.whole.now c.loop-at.at c.loop-at-test.true (λ within same. elim c.then-at-whole.branch [ then-at-whole-via-then-at-whole w ↦ absurd (omega (arith, within, w.if-at-whole.true)) | then-at-whole-via-else-at-whole+then-text-at w ↦ w.if-text-at.true same ]) c.loop-at.invariant)
