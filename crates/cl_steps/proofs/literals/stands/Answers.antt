use Rattle.std.proofs.Common.{ap, ◌∙◌}
use Rattle.std.proofs.lemmas.Result.{err_from_is_err_and}
use Rattle.cl_meaning.specs.Limits.{limited}
use Rattle.cl_meaning.proofs.LimitLaws.{limited-stop, charge_within}
use Rattle.cl_frames.proofs.Steps.{pay_fails}
use Rattle.cl_frames.proofs.Laws
use Rattle.cl_steps.proofs.literals.stands.Goals as goal

pub returns-in_err-pay_for : goal.returns-in_err-pay_for
returns-in_err-pay_for c s =
    pay_fails _ _ c.in_err-pay_for.field-0.0 _ _ _ _ _ _ _ (err_from_is_err_and c.from_residual.result c.from_residual.ensures.1) (ap (limited _ _) (Laws.standing_at _ _ _)) c.in_err-pay_for.ensures

pub returns : goal.returns
returns c s =
    ap (limited _ _) (Laws.standing_at _ _ _) ∙ charge_within _ _ _ _ _ _ c.in_ok-pay_for.ensures ∙ limited-stop _ _ _ _
