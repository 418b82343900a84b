use Rattle.std.proofs.Common.{refl, sym, ap, ◌∙◌}
use Rattle.std.proofs.lemmas.Result.{err_from_is_err_and}
use Rattle.cl_meaning.specs.Limits.{limited}
use Rattle.cl_meaning.proofs.LimitLaws.{charge_within}
use Rattle.cl_frames.proofs.Steps.{pay_fails, ends_so}
use Rattle.cl_frames.proofs.TokenLaws
use Rattle.cl_steps.proofs.tokens.read_balance.Goals as goal

pub returns-in_err-pay_for : goal.returns-in_err-pay_for
returns-in_err-pay_for c =
    pay_fails _ _ c.in_err-pay_for.field-0.0 _ _ _ _ _ _ _ (err_from_is_err_and c.from_residual.result c.from_residual.ensures.1) refl c.in_err-pay_for.ensures

pub returns-then-not-has_ft : goal.returns-then-not-has_ft
returns-then-not-has_ft c =
    charge_within _ _ _ _ _ _ c.in_ok-pay_for.ensures ∙ TokenLaws.not_there _ _ _ _ _ (sym c.has_ft.ensures ∙ c.if-not-has_ft.true)

pub returns : goal.returns
returns c =
    ends_so _ _ _ _ _ (charge_within _ _ _ _ _ _ c.in_ok-pay_for.ensures ∙ ap (limited _ _) (TokenLaws.balance_is _ c.args.value _ (sym c.has_ft.ensures ∙ c.if-not-has_ft.false))) (c.amount_held.ensures _ _)
