use Rattle.cl_values.specs.Computed.{Gives}
use Rattle.cl_audit_steps.proofs.TokenLaws.{done_made}
use Rattle.cl_audit_steps.proofs.tokens.success_answer.Goals as goal

pub returns : goal.returns
returns c = done_made _ _ c.bool_value.ensures (c.computed_last.ensures (Gives (Rattle.cl_values.specs.Tree.ResponseV Rattle.std.proofs.Common.true c.bool_value.result)) c.response.ensures)
