use Rattle.std.proofs.Common.{refl}
use Rattle.std.proofs.lemmas.Result.{err_from_is_err_and}
use Rattle.cl_audit_walk.proofs.Rules.{forgets, gives}
use Rattle.cl_audit_deploy.proofs.Charges.{hand_in, paid, unpaid, at_define}
use Rattle.cl_audit_deploy.proofs.defining.declare.Goals as goal

pub returns-in_err-at : goal.returns-in_err-at
returns-in_err-at c = forgets c.args.scope.now _ _ _ _ (hand_in c.args.contract.now _ _ (err_from_is_err_and c.from_residual.result c.from_residual.ensures.1)) refl

pub returns-in_err-pay : goal.returns-in_err-pay
returns-in_err-pay c = at_define c.args.scope.now _ _ _ _ _ _ c.in_ok-at.ensures (unpaid c.args.scope.now _ _ _ _ _ _ (hand_in c.args.contract.now _ _ (err_from_is_err_and c.from_residual-in_err-pay.result c.from_residual-in_err-pay.ensures.1)) c.in_err-pay.ensures)

pub returns : goal.returns
returns c = at_define c.args.scope.now _ _ _ _ _ _ c.in_ok-at.ensures (paid c.args.scope.now _ _ _ _ _ _ _ c.in_ok-pay.ensures (gives c.args.scope.now _ _ _ refl))
