use Rattle.std.proofs.Common.{refl, sym, ap, ◌∙◌}
use Rattle.std.proofs.lemmas.Result.{err_from_is_err_and}
use Rattle.cl_frames.proofs.Steps.{pay_fails_at, ends_so, known_same, charge_spent}
use Rattle.cl_steps.proofs.tokens.transfer_stx.Goals as goal

pub returns-in_err-pay_for_all-clause-meant : goal.returns-in_err-pay_for_all-clause-meant
returns-in_err-pay_for_all-clause-meant c =
    pay_fails_at _ _ c.in_err-pay_for_all.field-0.0 _ _ _ _ _ _ _ _ (err_from_is_err_and c.from_residual.result c.from_residual.ensures.1) (ap Rattle.cl_meaning.specs.Scope.sizes c.deref.ensures.value) refl c.in_err-pay_for_all.ensures

pub returns-clause-meant : goal.returns-clause-meant
returns-clause-meant c =
    ends_so _ _ _ _ _ (charge_spent _ _ _ _ _ _ _ (ap Rattle.cl_meaning.specs.Scope.sizes c.deref.ensures.value) c.in_ok-pay_for_all.ensures ∙ known_same _ _ _ _ _ _ (sym c.send_stx-kind.ensures)) (c.act_if.ensures.meant _)
