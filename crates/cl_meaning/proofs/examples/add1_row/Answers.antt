use Rattle.std.proofs.Common.{refl}
use Rattle.cl_meaning.specs.Opened.{opened}
use Rattle.cl_meaning.proofs.examples.add1_row.Goals as goal

pub returns-clause-deployed : goal.returns-clause-deployed
unfolding opened
returns-clause-deployed c = refl

pub returns-clause-deploy_state : goal.returns-clause-deploy_state
unfolding opened
returns-clause-deploy_state c = refl

pub returns-clause-deploy_cost : goal.returns-clause-deploy_cost
unfolding opened
returns-clause-deploy_cost c = refl

pub returns-clause-value : goal.returns-clause-value
unfolding opened
returns-clause-value c = refl

pub returns-clause-charges : goal.returns-clause-charges
unfolding opened
returns-clause-charges c = refl

pub returns-clause-cost : goal.returns-clause-cost
unfolding opened
returns-clause-cost c = refl

pub returns-clause-overflow : goal.returns-clause-overflow
unfolding opened
returns-clause-overflow c = refl

pub returns-clause-overflow_cost : goal.returns-clause-overflow_cost
unfolding opened
returns-clause-overflow_cost c = refl

pub returns-clause-trace : goal.returns-clause-trace
unfolding opened
returns-clause-trace c = refl
