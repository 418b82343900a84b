use Rattle.std.proofs.Common.{refl, sym, ◌∙◌}
use Rattle.std.proofs.lemmas.Result.{err_from_is_err_and}
use Rattle.cl_meaning.proofs.LimitLaws.{charge_within}
use Rattle.cl_frames.proofs.Steps.{pay_fails, ends_so}
use Rattle.cl_frames.proofs.TokenLaws
use Rattle.cl_steps.proofs.tokens.read_owner.Goals as goal

pub returns-in_err-pay_for : goal.returns-in_err-pay_for
returns-in_err-pay_for c =
    pay_fails _ _ c.in_err-pay_for.field-0.0 _ _ _ _ _ _ _ (err_from_is_err_and c.from_residual.result c.from_residual.ensures.1) refl c.in_err-pay_for.ensures

pub returns-then-not-has_nft : goal.returns-then-not-has_nft
returns-then-not-has_nft c =
    charge_within _ _ _ _ _ _ c.in_ok-pay_for.ensures ∙ TokenLaws.not_there _ _ _ _ _ (sym c.has_nft.ensures ∙ c.if-not-has_nft.true)

pub returns-in-Some : goal.returns-in-Some
returns-in-Some c =
    ends_so _ _ _ _ _ (charge_within _ _ _ _ _ _ c.in_ok-pay_for.ensures ∙ TokenLaws.owner_is _ _ _ _ _ _ _ (sym c.has_nft.ensures ∙ c.if-not-has_nft.false) c.in_ok-owner.ensures.spelled c.in-Some.is c.in_ok-owner.ensures.read) (c.some_principal.ensures _ _ _)

pub returns : goal.returns
returns c =
    charge_within _ _ _ _ _ _ c.in_ok-pay_for.ensures ∙ TokenLaws.no_owner _ _ _ _ _ _ _ (sym c.has_nft.ensures ∙ c.if-not-has_nft.false) c.in_ok-owner.ensures.spelled c.in-None.is c.none.ensures
