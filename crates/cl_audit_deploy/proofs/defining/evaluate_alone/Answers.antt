use Rattle.std.proofs.Common.{refl}
use Rattle.std.proofs.lemmas.Result.{err_from_is_err_and}
use Rattle.cl_audit_walk.proofs.Rules.{so, goes_on, stopped, gives}
use Rattle.cl_audit_deploy.proofs.Charges.{hand_in}
use Rattle.cl_audit_deploy.proofs.Forms.{expression_at}
use Rattle.cl_audit_deploy.proofs.defining.evaluate_alone.Goals as goal

pub returns-in_err-evaluate_top : goal.returns-in_err-evaluate_top
returns-in_err-evaluate_top c x = so c.args.scope.now _ _ _ _ _ (λ s. expression_at _ _ _ _ s c.args.item.now) (stopped c.args.scope.now _ _ _ _ _ _ (hand_in c.args.contract.now _ _ (err_from_is_err_and c.from_residual.result c.from_residual.ensures.1)) c.in_err-evaluate_top.ensures)

pub returns : goal.returns
returns c x = so c.args.scope.now _ _ _ _ _ (λ s. expression_at _ _ _ _ s c.args.item.now) (goes_on c.args.scope.now _ _ _ _ _ _ _ c.in_ok-evaluate_top.ensures (gives c.args.scope.now _ _ _ refl))
