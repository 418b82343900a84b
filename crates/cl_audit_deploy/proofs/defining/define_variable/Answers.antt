use Rattle.std.proofs.Common.{refl, ap}
use Rattle.std.proofs.lemmas.Result.{err_from_is_err_and}
use Rattle.cl_state.specs.Stack.{Stack}
use Rattle.cl_audit_steps.specs.Seen.{contract_seen}
use Rattle.cl_audit_walk.proofs.Rules.{so, goes_on, stopped, forgets}
use Rattle.cl_audit_deploy.proofs.Charges.{hand_in, paid, unpaid, at_define, puts}
use Rattle.cl_audit_deploy.proofs.Forms.{variable_at, variable_there}
use Rattle.cl_audit_deploy.proofs.defining.define_variable.Goals as goal

pub returns-in_err-value : goal.returns-in_err-value
returns-in_err-value c type = so c.args.scope.now _ _ _ _ _ (λ s. variable_at _ _ _ _ s type c.args.item.now) (stopped c.args.scope.now _ _ _ _ _ _ (hand_in c.args.contract.now _ _ (err_from_is_err_and c.from_residual.result c.from_residual.ensures.1)) c.in_err-value.ensures)

pub returns-in_err-pay : goal.returns-in_err-pay
returns-in_err-pay c type = so c.args.scope.now _ _ _ _ _ (λ s. variable_at _ _ _ _ s type c.args.item.now) (goes_on c.args.scope.now _ _ _ _ _ _ _ c.in_ok-value.ensures (at_define c.args.scope.now _ _ _ _ _ _ c.of.ensures (unpaid c.args.scope.now _ _ _ _ _ _ (hand_in c.args.contract.now _ _ (err_from_is_err_and c.from_residual-in_err-pay.result c.from_residual-in_err-pay.ensures.1)) c.in_err-pay.ensures)))

pub returns-in_err-put_variable : goal.returns-in_err-put_variable
returns-in_err-put_variable c type = so c.args.scope.now _ _ _ _ _ (λ s. variable_at _ _ _ _ s type c.args.item.now) (goes_on c.args.scope.now _ _ _ _ _ _ _ c.in_ok-value.ensures (at_define c.args.scope.now _ _ _ _ _ _ c.of.ensures (paid c.args.scope.now _ _ _ _ _ _ _ c.in_ok-pay.ensures (forgets c.args.scope.now _ _ _ _ (hand_in c.args.contract.now _ _ (err_from_is_err_and c.from_residual-in_err-put_variable.result c.from_residual-in_err-put_variable.ensures.1)) (ap (λ (k : Stack). k.below) c.in_err-put_variable.ensures.refused)))))

pub returns : goal.returns
returns c type = so c.args.scope.now _ _ _ _ _ (λ s. variable_at _ _ _ _ s type c.args.item.now) (goes_on c.args.scope.now _ _ _ _ _ _ _ c.in_ok-value.ensures (at_define c.args.scope.now _ _ _ _ _ _ c.of.ensures (paid c.args.scope.now _ _ _ _ _ _ _ c.in_ok-pay.ensures (puts c.args.scope.now _ _ _ _ _ (variable_there (contract_seen c.args.contract.now) _ _ _ c.in_ok-value.value c.pay.new.run.world.stack.top c.place_of.ensures.contract c.place_of.ensures.name) c.in_ok-put_variable.ensures.done refl))))
