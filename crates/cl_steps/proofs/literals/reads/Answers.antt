use Rattle.std.proofs.Common.{refl, ap, ◌∙◌}
use Rattle.std.proofs.lemmas.Result.{err_from_is_err_and}
use Rattle.cl_meaning.specs.Limits.{limited}
use Rattle.cl_meaning.proofs.LimitLaws.{charge_within}
use Rattle.cl_frames.proofs.Steps.{pay_fails, gives}
use Rattle.cl_frames.proofs.Laws
use Rattle.cl_steps.proofs.literals.reads.Goals as goal

pub returns-in_err-pay_for : goal.returns-in_err-pay_for
returns-in_err-pay_for c s =
    pay_fails _ _ c.in_err-pay_for.field-0.0 _ _ _ _ _ _ _ (err_from_is_err_and c.from_residual.result c.from_residual.ensures.1) (ap (limited _ _) (Laws.standing_at _ _ _)) c.in_err-pay_for.ensures

pub returns : goal.returns
returns c s =
    ap (limited _ _) (Laws.standing_at _ _ _) ∙ charge_within _ _ _ _ _ _ c.in_ok-pay_for.ensures ∙ gives _ _ _ _ _ _ c.in_ok-copied.ensures refl
