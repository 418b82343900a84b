use Rattle.std.proofs.Common.{ℕ, refl, ap, ◌∙◌}
use Rattle.std.proofs.lemmas.Result.{err_from_is_err_and}
use Rattle.cl_shapes.specs.declared.name.CostName.TheVariants.{Deploy}
use Rattle.cl_audit_walk.proofs.Rules.{forgets}
use Rattle.cl_audit_deploy.proofs.Charges.{hand_opened, paid, unpaid}
use Rattle.cl_audit_deploy.proofs.Turns.{charge_deploy}
use Rattle.cl_audit_deploy.proofs.deploying.define_charged.Goals as goal

pub returns-in_err-at-clause-evaluates : goal.returns-in_err-at-clause-evaluates
returns-in_err-at-clause-evaluates c = forgets c.args.scope.now _ _ _ _ (hand_opened _ _ _ (err_from_is_err_and c.from_residual.result c.from_residual.ensures.1)) refl

pub returns-in_err-pay-clause-evaluates : goal.returns-in_err-pay-clause-evaluates
returns-in_err-pay-clause-evaluates c = charge_deploy c.args.scope.now _ _ _ _ _ _ (c.in_ok-at.ensures ∙ ap (λ (n : ℕ). (Deploy, n)) c.from-length.ensures) (unpaid c.args.scope.now _ _ _ _ _ _ (hand_opened _ _ _ (err_from_is_err_and c.from_residual-in_err-pay.result c.from_residual-in_err-pay.ensures.1)) c.in_err-pay.ensures)

pub returns-clause-evaluates : goal.returns-clause-evaluates
returns-clause-evaluates c = charge_deploy c.args.scope.now _ _ _ _ _ _ (c.in_ok-at.ensures ∙ ap (λ (n : ℕ). (Deploy, n)) c.from-length.ensures) (paid c.args.scope.now _ _ _ _ _ _ _ c.in_ok-pay.ensures c.define_all.ensures.evaluates)
