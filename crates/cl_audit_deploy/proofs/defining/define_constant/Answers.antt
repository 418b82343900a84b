use Rattle.std.proofs.Common.{refl}
use Rattle.std.proofs.lemmas.Result.{err_from_is_err_and}
use Rattle.cl_audit_walk.proofs.Rules.{so, goes_on, stopped, gives}
use Rattle.cl_audit_deploy.proofs.Charges.{hand_in, paid, unpaid, at_define}
use Rattle.cl_audit_deploy.proofs.Forms.{constant_at}
use Rattle.cl_audit_deploy.proofs.defining.define_constant.Goals as goal

pub returns-in_err-value : goal.returns-in_err-value
returns-in_err-value c = so c.args.scope.now _ _ _ _ _ (λ s. constant_at _ _ _ _ s c.args.item.now) (stopped c.args.scope.now _ _ _ _ _ _ (hand_in c.args.contract.now _ _ (err_from_is_err_and c.from_residual.result c.from_residual.ensures.1)) c.in_err-value.ensures)

pub returns-in_err-pay : goal.returns-in_err-pay
returns-in_err-pay c = so c.args.scope.now _ _ _ _ _ (λ s. constant_at _ _ _ _ s c.args.item.now) (goes_on c.args.scope.now _ _ _ _ _ _ _ c.in_ok-value.ensures (at_define c.args.scope.now _ _ _ _ _ _ c.of.ensures (unpaid c.args.scope.now _ _ _ _ _ _ (hand_in c.args.contract.now _ _ (err_from_is_err_and c.from_residual-in_err-pay.result c.from_residual-in_err-pay.ensures.1)) c.in_err-pay.ensures)))

pub returns : goal.returns
returns c = so c.args.scope.now _ _ _ _ _ (λ s. constant_at _ _ _ _ s c.args.item.now) (goes_on c.args.scope.now _ _ _ _ _ _ _ c.in_ok-value.ensures (at_define c.args.scope.now _ _ _ _ _ _ c.of.ensures (paid c.args.scope.now _ _ _ _ _ _ _ c.in_ok-pay.ensures (gives c.args.scope.now _ _ _ refl))))
