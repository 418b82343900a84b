use Rattle.std.proofs.Common.{refl}
use Rattle.cl_tx.specs.StepRows.{opened}
use Rattle.cl_tx.proofs.examples.steps_in_epochs.Goals as goal

pub returns-clause-before : goal.returns-clause-before
unfolding opened
returns-clause-before c = refl

pub returns-clause-begins : goal.returns-clause-begins
unfolding opened
returns-clause-begins c = refl

pub returns-clause-above : goal.returns-clause-above
unfolding opened
returns-clause-above c = refl

pub returns-clause-cheap : goal.returns-clause-cheap
unfolding opened
returns-clause-cheap c = refl

pub returns-clause-dear : goal.returns-clause-dear
unfolding opened
returns-clause-dear c = refl

pub returns-clause-no_bound : goal.returns-clause-no_bound
unfolding opened
returns-clause-no_bound c = refl

pub returns-clause-misfit : goal.returns-clause-misfit
unfolding opened
returns-clause-misfit c = refl
