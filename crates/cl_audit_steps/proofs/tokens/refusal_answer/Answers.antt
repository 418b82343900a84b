use Rattle.cl_values.specs.Computed.{Gives}
use Rattle.cl_audit_steps.proofs.TokenLaws.{refusal_made}
use Rattle.cl_audit_steps.proofs.tokens.refusal_answer.Goals as goal

pub returns : goal.returns
returns c = refusal_made _ _ _ _ c.uint_value.ensures c.from.ensures (c.computed_last.ensures (Gives (Rattle.cl_values.specs.Tree.ResponseV Rattle.std.proofs.Common.false c.uint_value.result)) c.response.ensures)
