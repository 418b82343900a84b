use Rattle.std.proofs.Common.{refl, ◌∙◌, arith}
use Rattle.std.proofs.lemmas.Result.{err_from_is_err_and}
use Rattle.cl_frames.proofs.Steps.{pay_fails_at, charge_spent, gives}
use Rattle.cl_frames.proofs.IterateLaws.{joined_some, joined_none}
use Rattle.cl_steps.proofs.applied.joined_on.Goals as goal

pub returns-in_err-pay : goal.returns-in_err-pay
returns-in_err-pay c s =
    pay_fails_at _ _ c.in_err-pay.field-0.0 _ _ _ _ _ _ _ _ (err_from_is_err_and c.from_residual.result c.from_residual.ensures.1) (omega (arith, c.args.values.ok.0)) refl c.in_err-pay.ensures

pub returns-in-Some : goal.returns-in-Some
returns-in-Some c s =
    charge_spent _ _ _ _ _ _ _ (omega (arith, c.args.values.ok.0)) c.in_ok-pay.ensures ∙ joined_some _ _ _ _ _ s _ _ c.in-Some.is c.joined.ensures c.deref.ensures.value ∙ gives _ _ _ _ _ _ c.bool_value.ensures refl

pub returns : goal.returns
returns c s =
    charge_spent _ _ _ _ _ _ _ (omega (arith, c.args.values.ok.0)) c.in_ok-pay.ensures ∙ joined_none _ _ _ _ _ s _ c.in-None.is c.joined.ensures c.deref.ensures.value
