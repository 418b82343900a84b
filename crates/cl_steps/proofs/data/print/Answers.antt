use Rattle.std.proofs.Common.{refl, ap, ◌∙◌}
use Rattle.std.proofs.lemmas.Result.{err_from_is_err_and}
use Rattle.cl_state.specs.Stack.{Stack}
use Rattle.cl_meaning.proofs.LimitLaws.{charge_within}
use Rattle.cl_frames.proofs.Steps.{pay_fails}
use Rattle.cl_frames.proofs.Laws
use Rattle.cl_steps.proofs.data.print.Goals as goal

pub returns-in_err-pay_for-clause-meant : goal.returns-in_err-pay_for-clause-meant
returns-in_err-pay_for-clause-meant c =
    pay_fails _ _ c.in_err-pay_for.field-0.0 _ _ _ _ _ _ _ (err_from_is_err_and c.from_residual.result c.from_residual.ensures.1) (refl) c.in_err-pay_for.ensures

pub returns-clause-meant : goal.returns-clause-meant
returns-clause-meant c =
    charge_within _ _ _ _ _ _ c.in_ok-pay_for.ensures ∙ Laws.print_ends _ _ _ _ _ _ _ c.in_ok-told.ensures (ap (λ (w : Stack). w.top) c.in_ok-print.ensures.done)
