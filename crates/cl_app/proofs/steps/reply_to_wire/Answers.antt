use Rattle.std.proofs.Common.{ℕ, List, IfOk, subst}
use Rattle.cl_replies.specs.Reports.{IsWireReply}
use Rattle.cl_app.proofs.steps.reply_to_wire.Goals as goal

pub returns : goal.returns
returns c = subst (λ (b : List ℕ). IfOk c.wire_reply.result (IsWireReply b)) c.as_bytes.ensures.value c.wire_reply.ensures
