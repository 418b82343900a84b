use Rattle.std.proofs.Common.{refl}
use Rattle.cl_meaning.specs.Opened.{opened}
use Rattle.cl_meaning.proofs.examples.limit_row.Goals as goal

pub returns-clause-deploy_state : goal.returns-clause-deploy_state
unfolding opened
returns-clause-deploy_state c = refl

pub returns-clause-deploy_cost : goal.returns-clause-deploy_cost
unfolding opened
returns-clause-deploy_cost c = refl

pub returns-clause-value : goal.returns-clause-value
unfolding opened
returns-clause-value c = refl

pub returns-clause-within : goal.returns-clause-within
unfolding opened
returns-clause-within c = refl

pub returns-clause-over : goal.returns-clause-over
unfolding opened
returns-clause-over c = refl
