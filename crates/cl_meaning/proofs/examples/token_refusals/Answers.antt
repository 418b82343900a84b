use Rattle.std.proofs.Common.{refl}
use Rattle.cl_meaning.specs.Opened.{opened}
use Rattle.cl_meaning.proofs.examples.token_refusals.Goals as goal

pub returns-clause-too_much : goal.returns-clause-too_much
unfolding opened
returns-clause-too_much c = refl

pub returns-clause-too_much_cost : goal.returns-clause-too_much_cost
unfolding opened
returns-clause-too_much_cost c = refl

pub returns-clause-too_much_state : goal.returns-clause-too_much_state
unfolding opened
returns-clause-too_much_state c = refl

pub returns-clause-past_supply : goal.returns-clause-past_supply
unfolding opened
returns-clause-past_supply c = refl

pub returns-clause-past_supply_cost : goal.returns-clause-past_supply_cost
unfolding opened
returns-clause-past_supply_cost c = refl

pub returns-clause-by_another : goal.returns-clause-by_another
unfolding opened
returns-clause-by_another c = refl
