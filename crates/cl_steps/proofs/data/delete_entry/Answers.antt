use Rattle.std.proofs.Common.{true, false, refl, sym, ap, ◌∙◌}
use Rattle.std.proofs.lemmas.Result.{err_from_is_err_and}
use Rattle.cl_state.specs.Stack.{Stack}
use Rattle.cl_meaning.specs.Limits.{limited}
use Rattle.cl_meaning.proofs.LimitLaws.{limited-stop, charge_within}
use Rattle.cl_frames.specs.Seen.{scope}
use Rattle.cl_frames.proofs.Steps.{pay_fails, gives}
use Rattle.cl_frames.proofs.Laws
use Rattle.cl_steps.proofs.data.delete_entry.Goals as goal

pub returns-in_err-pay_for-clause-meant : goal.returns-in_err-pay_for-clause-meant
returns-in_err-pay_for-clause-meant c fits =
    pay_fails _ _ c.in_err-pay_for.field-0.0 _ _ _ _ _ _ _ (err_from_is_err_and c.from_residual.result c.from_residual.ensures.1) (refl) c.in_err-pay_for.ensures

pub returns-then-not-own_map-clause-meant : goal.returns-then-not-own_map-clause-meant
returns-then-not-own_map-clause-meant c fits =
    charge_within _ _ _ _ _ _ c.in_ok-pay_for.ensures ∙ ap (limited _ _) (Laws.no_map (scope c.args.context.now c.args.names.now) c.args.name.now _ c.args.world.now.stack.top (sym (c.own_map.ensures c.args.names.now.values fits) ∙ c.if-not-own_map.true)) ∙ limited-stop _ _ _ _

pub returns-clause-meant : goal.returns-clause-meant
returns-clause-meant c fits =
    charge_within _ _ _ _ _ _ c.in_ok-pay_for.ensures ∙ ap (limited _ _) (Laws.deleted_is (scope c.args.context.now c.args.names.now) c.args.name.now _ _ _ _ (sym (c.own_map.ensures c.args.names.now.values fits) ∙ c.if-not-own_map.false) c.in_ok-was_there.ensures.found (ap (λ (w : Stack). w.top) c.in_ok-was_there.ensures.done)) ∙ gives _ _ _ _ _ _ c.bool_value.ensures refl
