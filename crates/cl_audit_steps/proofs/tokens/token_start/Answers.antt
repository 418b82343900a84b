use Rattle.std.proofs.Common.{◌∙◌}
use Rattle.cl_audit_steps.proofs.DataLaws.{starts_at}
use Rattle.cl_audit_steps.proofs.TokenLaws.{on_stx_is, on_token_is}
use Rattle.cl_audit_steps.proofs.tokens.token_start.Goals as goal

pub returns-in-Some : goal.returns-in-Some
returns-in-Some c S take enter s = starts_at _ _ _ take enter S s (on_stx_is c.args.native _ c.args.items.now take S s c.in-Some.ensures) c.acts.ensures

pub returns-in-None : goal.returns-in-None
returns-in-None c S take enter s = on_token_is c.args.native c.args.items.now take S s c.in-None.ensures ∙ c.named_token_start.ensures S take enter s
