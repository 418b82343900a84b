use Rattle.std.proofs.Common.{refl}
use Rattle.cl_meaning.specs.Opened.{opened}
use Rattle.cl_meaning.proofs.examples.fold_row.Goals as goal

pub returns-clause-empty : goal.returns-clause-empty
unfolding opened
returns-clause-empty c = refl

pub returns-clause-empty_cost : goal.returns-clause-empty_cost
unfolding opened
returns-clause-empty_cost c = refl

pub returns-clause-one : goal.returns-clause-one
unfolding opened
returns-clause-one c = refl

pub returns-clause-one_cost : goal.returns-clause-one_cost
unfolding opened
returns-clause-one_cost c = refl

pub returns-clause-state : goal.returns-clause-state
unfolding opened
returns-clause-state c = refl
