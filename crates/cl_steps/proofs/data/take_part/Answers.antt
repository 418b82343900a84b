use Rattle.std.proofs.Common.{refl}
use Rattle.std.proofs.lemmas.Result.{err_from_is_err_and}
use Rattle.cl_meaning.proofs.LimitLaws.{charge_within}
use Rattle.cl_frames.proofs.Steps.{pay_fails, ends_so, native_ends}
use Rattle.cl_frames.proofs.Laws
use Rattle.cl_steps.proofs.data.take_part.Goals as goal

pub returns-in_err-pay_for : goal.returns-in_err-pay_for
returns-in_err-pay_for c s =
    pay_fails _ _ c.in_err-pay_for.field-0.0 _ _ _ _ _ _ _ (err_from_is_err_and c.from_residual.result c.from_residual.ensures.1) (refl) c.in_err-pay_for.ensures

pub returns : goal.returns
returns c s =
    ends_so _ _ _ _ _ (charge_within _ _ _ _ _ _ c.in_ok-pay_for.ensures) (native_ends _ _ _ _ _ (c.computed.ensures (Rattle.cl_values.specs.Tuples.part_at c.args.key.now c.args.value) c.try_get.ensures))
