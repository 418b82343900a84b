use Rattle.std.proofs.Common.{refl, ap, ◌∙◌}
use Rattle.std.proofs.lemmas.Result.{err_from_is_err_and}
use Rattle.cl_maps.specs.Maps.{get}
use Rattle.cl_events.specs.State.{place}
use Rattle.cl_state.specs.Stack.{Stack}
use Rattle.cl_audit_steps.specs.Seen.{contract_seen}
use Rattle.cl_audit_walk.proofs.Rules.{so, forgets}
use Rattle.cl_audit_deploy.proofs.Charges.{hand_in, paid, unpaid, at_define, puts}
use Rattle.cl_audit_deploy.proofs.Forms.{nonfungible_at, absent_there, nonfungible_there}
use Rattle.cl_audit_deploy.proofs.defining.define_nonfungible.Goals as goal

pub returns-in_err-at : goal.returns-in_err-at
returns-in_err-at c type = forgets c.args.scope.now _ _ _ _ (hand_in c.args.contract.now _ _ (err_from_is_err_and c.from_residual.result c.from_residual.ensures.1)) refl

pub returns-in_err-pay : goal.returns-in_err-pay
returns-in_err-pay c type = so c.args.scope.now _ _ _ _ _ (λ s. nonfungible_at _ _ _ _ s type) (at_define c.args.scope.now _ _ _ _ _ _ c.in_ok-at.ensures (unpaid c.args.scope.now _ _ _ _ _ _ (hand_in c.args.contract.now _ _ (err_from_is_err_and c.from_residual-in_err-pay.result c.from_residual-in_err-pay.ensures.1)) c.in_err-pay.ensures))

pub define_nft-requires : goal.define_nft-requires
define_nft-requires c =
    absent_there c.pay.new.run.world.stack.top.nonfungibles c.args.contract.now.principal _ c.args.name.now _ c.place_of.ensures.contract c.place_of.ensures.name
    (ap (λ (t : Stack). get (place c.args.contract.now.principal c.args.name.now) t.top.nonfungibles) c.in_ok-pay.ensures.world ∙ c.requires)

pub returns-in_err-define_nft : goal.returns-in_err-define_nft
returns-in_err-define_nft c type = so c.args.scope.now _ _ _ _ _ (λ s. nonfungible_at _ _ _ _ s type) (at_define c.args.scope.now _ _ _ _ _ _ c.in_ok-at.ensures (paid c.args.scope.now _ _ _ _ _ _ _ c.in_ok-pay.ensures (forgets c.args.scope.now _ _ _ _ (hand_in c.args.contract.now _ _ (err_from_is_err_and c.from_residual-in_err-define_nft.result c.from_residual-in_err-define_nft.ensures.1)) (ap (λ (k : Stack). k.below) c.in_err-define_nft.ensures.refused))))

pub returns : goal.returns
returns c type = so c.args.scope.now _ _ _ _ _ (λ s. nonfungible_at _ _ _ _ s type) (at_define c.args.scope.now _ _ _ _ _ _ c.in_ok-at.ensures (paid c.args.scope.now _ _ _ _ _ _ _ c.in_ok-pay.ensures (puts c.args.scope.now _ _ _ _ _ (nonfungible_there (contract_seen c.args.contract.now) _ _ _ c.pay.new.run.world.stack.top c.place_of.ensures.contract c.place_of.ensures.name) c.in_ok-define_nft.ensures.done refl)))
