use Rattle.std.proofs.lemmas.Result.{err_from_is_err_and}
use Rattle.cl_events.specs.State.{place}
use Rattle.cl_audit_walk.proofs.Rules.{so, goes_on, stopped}
use Rattle.cl_audit_deploy.proofs.Charges.{hand_in}
use Rattle.cl_audit_deploy.proofs.Forms.{capped_at}
use Rattle.cl_audit_deploy.proofs.Turns.{none_still}
use Rattle.cl_audit_deploy.proofs.defining.define_capped.Goals as goal

pub put_capped-requires : goal.put_capped-requires
put_capped-requires c = none_still c.args.scope.now c.args.contract.now c.args.item.now _ _ _ (place c.args.contract.now.principal c.args.name.now) c.in_ok-cap.ensures c.requires

pub returns-in_err-cap : goal.returns-in_err-cap
returns-in_err-cap c = so c.args.scope.now _ _ _ _ _ (λ s. capped_at _ _ _ _ s c.args.item.now) (stopped c.args.scope.now _ _ _ _ _ _ (hand_in c.args.contract.now _ _ (err_from_is_err_and c.from_residual.result c.from_residual.ensures.1)) c.in_err-cap.ensures)

pub returns : goal.returns
returns c = so c.args.scope.now _ _ _ _ _ (λ s. capped_at _ _ _ _ s c.args.item.now) (goes_on c.args.scope.now _ _ _ _ _ _ _ c.in_ok-cap.ensures c.put_capped.ensures)
