use Rattle.std.proofs.Common.{Ok, Err, subst}
use Rattle.cl_rules.specs.Context.{Names}
use Rattle.cl_check.specs.JudgingForms.{Checks}
use Rattle.cl_check.proofs.kinds.unbound.Goals as goal

pub returns-in-Ok-clause-found : goal.returns-in-Ok-clause-found
returns-in-Ok-clause-found c = subst (λ (B : Names). Checks c.args.ctx.now B c.args.e.now (Ok c.in-Ok.checked)) c.with_hasher-scope.ensures.empty c.in-Ok.ensures.plain

pub returns-clause-found : goal.returns-clause-found
returns-clause-found c = subst (λ (B : Names). Checks c.args.ctx.now B c.args.e.now (Err c.in-Err.fault)) c.with_hasher-scope.ensures.empty c.in-Err.ensures.plain
