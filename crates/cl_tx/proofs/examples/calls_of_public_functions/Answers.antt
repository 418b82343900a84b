use Rattle.std.proofs.Common.{refl}
use Rattle.cl_tx.specs.StepRows.{opened}
use Rattle.cl_tx.proofs.examples.calls_of_public_functions.Goals as goal

pub returns-clause-good : goal.returns-clause-good
unfolding opened
returns-clause-good c = refl

pub returns-clause-bad : goal.returns-clause-bad
unfolding opened
returns-clause-bad c = refl

pub returns-clause-told : goal.returns-clause-told
unfolding opened
returns-clause-told c = refl

pub returns-clause-aborted : goal.returns-clause-aborted
unfolding opened
returns-clause-aborted c = refl
