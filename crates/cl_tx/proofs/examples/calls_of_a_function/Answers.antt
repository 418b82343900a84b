use Rattle.std.proofs.Common.{refl}
use Rattle.cl_tx.specs.StepRows.{opened}
use Rattle.cl_tx.proofs.examples.calls_of_a_function.Goals as goal

pub returns-clause-value : goal.returns-clause-value
unfolding opened
returns-clause-value c = refl

pub returns-clause-overflow : goal.returns-clause-overflow
unfolding opened
returns-clause-overflow c = refl

pub returns-clause-no_contract : goal.returns-clause-no_contract
unfolding opened
returns-clause-no_contract c = refl

pub returns-clause-no_function : goal.returns-clause-no_function
unfolding opened
returns-clause-no_function c = refl

pub returns-clause-count : goal.returns-clause-count
unfolding opened
returns-clause-count c = refl

pub returns-clause-misfit : goal.returns-clause-misfit
unfolding opened
returns-clause-misfit c = refl

pub returns-clause-private : goal.returns-clause-private
unfolding opened
returns-clause-private c = refl
