use Rattle.std.proofs.Common.{refl, sym, ◌∙◌}
use Rattle.std.proofs.lemmas.Result.{err_from_is_err_and}
use Rattle.cl_meaning.proofs.LimitLaws.{charge_within}
use Rattle.cl_frames.proofs.Steps.{pay_fails}
use Rattle.cl_frames.proofs.TokenLaws
use Rattle.cl_steps.proofs.tokens.read_supply.Goals as goal

pub returns-in_err-pay : goal.returns-in_err-pay
returns-in_err-pay c =
    pay_fails _ _ c.in_err-pay.field-0.0 _ _ _ _ _ _ _ (err_from_is_err_and c.from_residual.result c.from_residual.ensures.1) refl c.in_err-pay.ensures

pub returns-then-not-has_ft : goal.returns-then-not-has_ft
returns-then-not-has_ft c =
    charge_within _ _ _ _ _ _ c.in_ok-pay.ensures ∙ TokenLaws.not_there _ _ _ _ _ (sym c.has_ft.ensures ∙ c.if-not-has_ft.true)

pub returns : goal.returns
returns c =
    charge_within _ _ _ _ _ _ c.in_ok-pay.ensures ∙ TokenLaws.supply_is _ _ _ _ _ _ (sym c.has_ft.ensures ∙ c.if-not-has_ft.false) c.supply.ensures c.uint_value.ensures

pub supply-requires : goal.supply-requires
supply-requires c =
    sym c.has_ft.ensures ∙ c.if-not-has_ft.false
