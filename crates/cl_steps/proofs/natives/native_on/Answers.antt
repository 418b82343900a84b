use Rattle.std.proofs.Common.{ap, ◌∙◌}
use Rattle.std.proofs.lemmas.Result.{err_from_is_err_and}
use Rattle.cl_meaning.specs.Limits.{limited}
use Rattle.cl_meaning.proofs.LimitLaws.{charge_within}
use Rattle.cl_frames.proofs.Steps.{pay_fails, ends_so, native_ends}
use Rattle.cl_frames.proofs.Laws
use Rattle.cl_steps.proofs.natives.native_on.Goals as goal

pub returns-in_err-pay : goal.returns-in_err-pay
returns-in_err-pay c s =
    pay_fails _ _ c.in_err-pay.field-0.0 _ _ _ _ _ _ _ (err_from_is_err_and c.from_residual.result c.from_residual.ensures.1) (ap (limited _ _) (Laws.charged_as _ _ _ _ _ _ s c.native_cost-cost.ensures c.deref.ensures.value c.charged_number-number.ensures.number)) c.in_err-pay.ensures

pub returns : goal.returns
returns c s =
    ends_so _ _ _ _ _ (ap (limited _ _) (Laws.charged_as _ _ _ _ _ _ s c.native_cost-cost.ensures c.deref.ensures.value c.charged_number-number.ensures.number) ∙ charge_within _ _ _ _ _ _ c.in_ok-pay.ensures) (native_ends _ _ _ _ _ (c.computed.ensures (Rattle.cl_values.specs.Natives.native_value c.args.native c.args.values.items) c.apply_native.ensures))
