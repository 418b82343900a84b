use Rattle.std.proofs.Common.{None, refl, ap, ◌∙◌}
use Rattle.std.proofs.lemmas.Result.{err_from_is_err_and}
use Rattle.cl_maps.specs.Maps.{get}
use Rattle.cl_events.specs.State.{place}
use Rattle.cl_state.specs.Stack.{Stack}
use Rattle.cl_audit_steps.specs.Seen.{contract_seen}
use Rattle.cl_audit_walk.proofs.Rules.{so, forgets}
use Rattle.cl_audit_deploy.proofs.Charges.{hand_in, paid, unpaid, at_define, puts}
use Rattle.cl_audit_deploy.proofs.Forms.{uncapped_at, absent_there, fungible_there}
use Rattle.cl_audit_deploy.proofs.defining.define_uncapped.Goals as goal

pub returns-in_err-at : goal.returns-in_err-at
returns-in_err-at c = forgets c.args.scope.now _ _ _ _ (hand_in c.args.contract.now _ _ (err_from_is_err_and c.from_residual.result c.from_residual.ensures.1)) refl

pub returns-in_err-pay : goal.returns-in_err-pay
returns-in_err-pay c = so c.args.scope.now _ _ _ _ _ (λ s. uncapped_at _ _ _ _ s) (at_define c.args.scope.now _ _ _ _ _ _ c.in_ok-at.ensures (unpaid c.args.scope.now _ _ _ _ _ _ (hand_in c.args.contract.now _ _ (err_from_is_err_and c.from_residual-in_err-pay.result c.from_residual-in_err-pay.ensures.1)) c.in_err-pay.ensures))

pub define_ft-requires : goal.define_ft-requires
define_ft-requires c =
    absent_there c.pay.new.run.world.stack.top.fungibles c.args.contract.now.principal _ c.args.name.now _ c.place_of.ensures.contract c.place_of.ensures.name
    (ap (λ (t : Stack). get (place c.args.contract.now.principal c.args.name.now) t.top.fungibles) c.in_ok-pay.ensures.world ∙ c.requires)

pub returns-in_err-define_ft : goal.returns-in_err-define_ft
returns-in_err-define_ft c = so c.args.scope.now _ _ _ _ _ (λ s. uncapped_at _ _ _ _ s) (at_define c.args.scope.now _ _ _ _ _ _ c.in_ok-at.ensures (paid c.args.scope.now _ _ _ _ _ _ _ c.in_ok-pay.ensures (forgets c.args.scope.now _ _ _ _ (hand_in c.args.contract.now _ _ (err_from_is_err_and c.from_residual-in_err-define_ft.result c.from_residual-in_err-define_ft.ensures.1)) (ap (λ (k : Stack). k.below) c.in_err-define_ft.ensures.refused))))

pub returns : goal.returns
returns c = so c.args.scope.now _ _ _ _ _ (λ s. uncapped_at _ _ _ _ s) (at_define c.args.scope.now _ _ _ _ _ _ c.in_ok-at.ensures (paid c.args.scope.now _ _ _ _ _ _ _ c.in_ok-pay.ensures (puts c.args.scope.now _ _ _ _ _ (fungible_there (contract_seen c.args.contract.now) _ _ _ None c.pay.new.run.world.stack.top c.place_of.ensures.contract c.place_of.ensures.name) c.in_ok-define_ft.ensures.done refl)))
