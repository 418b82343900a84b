use Rattle.std.proofs.Common.{true, false, refl, sym, ap, ◌∙◌}
use Rattle.std.proofs.lemmas.Result.{err_from_is_err_and}
use Rattle.cl_state.specs.Stack.{Stack}
use Rattle.cl_meaning.specs.Limits.{limited}
use Rattle.cl_meaning.proofs.LimitLaws.{limited-stop, charge_within}
use Rattle.cl_frames.proofs.Steps.{pay_fails, gives}
use Rattle.cl_frames.proofs.Laws
use Rattle.cl_steps.proofs.data.write_variable.Goals as goal

pub returns-in_err-pay_for-clause-meant : goal.returns-in_err-pay_for-clause-meant
returns-in_err-pay_for-clause-meant c =
    pay_fails _ _ c.in_err-pay_for.field-0.0 _ _ _ _ _ _ _ (err_from_is_err_and c.from_residual.result c.from_residual.ensures.1) (refl) c.in_err-pay_for.ensures

pub returns-then-there-clause-meant : goal.returns-then-there-clause-meant
returns-then-there-clause-meant c =
    charge_within _ _ _ _ _ _ c.in_ok-pay_for.ensures ∙ ap (limited _ _) (Laws.set_there _ _ _ _ (sym c.if-there.true ∙ c.in_ok-there.ensures.found)) ∙ gives _ _ _ _ _ _ c.bool_value.ensures (ap (λ (w : Stack). w.top) (c.in_ok-there.ensures.done c.if-there.true))

pub returns-then-there-clause-below : goal.returns-then-there-clause-below
returns-then-there-clause-below c = ap (λ (w : Stack). w.below) (c.in_ok-there.ensures.done c.if-there.true)

pub returns-else-there-clause-meant : goal.returns-else-there-clause-meant
returns-else-there-clause-meant c =
    charge_within _ _ _ _ _ _ c.in_ok-pay_for.ensures ∙ ap (limited _ _) (Laws.set_absent _ _ _ _ (sym c.if-there.false ∙ c.in_ok-there.ensures.found)) ∙ limited-stop _ _ _ _

pub returns-else-there-clause-below : goal.returns-else-there-clause-below
returns-else-there-clause-below c = ap (λ (w : Stack). w.below) (c.in_ok-there.ensures.absent c.if-there.false)
