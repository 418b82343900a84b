use Rattle.std.proofs.Common.{sym, ◌∙◌}
use Rattle.cl_frames.proofs.Steps.{known_none}
use Rattle.cl_frames.proofs.TokenLaws
use Rattle.cl_steps.proofs.tokens.amount_held.Goals as goal

pub returns-in_ok-balance-in-Some : goal.returns-in_ok-balance-in-Some
returns-in_ok-balance-in-Some c costs p =
    TokenLaws.amount_is _ _ _ _ _ _ _ _ (sym c.principal_of.ensures ∙ c.in-Some.is) c.in_ok-balance-in-Some.ensures c.uint_value.ensures

pub returns-in-None : goal.returns-in-None
returns-in-None c costs p =
    known_none _ _ _ _ _ (sym c.principal_of.ensures ∙ c.in-None.is)
