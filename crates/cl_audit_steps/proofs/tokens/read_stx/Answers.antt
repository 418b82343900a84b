use Rattle.std.proofs.Common.{refl, ◌∙◌}
use Rattle.cl_audit_steps.proofs.TokenLaws.{stx_is}
use Rattle.cl_audit_steps.proofs.ValueLaws.{charged_as}
use Rattle.cl_audit_steps.proofs.tokens.read_stx.Goals as goal

pub returns : goal.returns
returns c S take enter = charged_as _ _ _ _ _ _ _ S take enter _ refl c.of-charge.ensures (stx_is c.args.world.now.stack.top.stx c.args.value _ ∙ c.in_ok-last.ensures S take enter _) c.charged_end.ensures
