use Rattle.cl_audit_deploy.proofs.Turns.{of_kind}
use Rattle.cl_audit_deploy.proofs.defining.define_unnamed.Goals as goal

pub returns : goal.returns
returns c x = of_kind c.args.scope.now x _ _ c.args.contract.now _ _ _ c.in-Expression.is (c.evaluate_alone.ensures x)
