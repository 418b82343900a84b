use Rattle.std.proofs.Common.{Ok, Err, subst}
use Rattle.cl_rules.specs.Context.{Names}
use Rattle.cl_check.specs.JudgingForms.{Checks}
use Rattle.cl_check.proofs.kinds.with_params.Goals as goal

pub returns-in-Ok-judge-clause-found : goal.returns-in-Ok-judge-clause-found
returns-in-Ok-judge-clause-found c = subst (λ (B : Names). Checks c.args.ctx.now B c.args.e.now (Ok c.in-Ok-judge.checked)) c.in-Ok.ensures c.in-Ok-judge.ensures.plain

pub returns-clause-found : goal.returns-clause-found
returns-clause-found c = subst (λ (B : Names). Checks c.args.ctx.now B c.args.e.now (Err c.in-Err-judge.fault)) c.in-Ok.ensures c.in-Err-judge.ensures.plain
