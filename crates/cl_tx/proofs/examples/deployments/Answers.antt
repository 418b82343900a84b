use Rattle.std.proofs.Common.{refl}
use Rattle.cl_tx.specs.StepRows.{opened}
use Rattle.cl_tx.proofs.examples.deployments.Goals as goal

pub returns-clause-add1 : goal.returns-clause-add1
unfolding opened
returns-clause-add1 c = refl

pub returns-clause-counter : goal.returns-clause-counter
unfolding opened
returns-clause-counter c = refl

pub returns-clause-in_order : goal.returns-clause-in_order
unfolding opened
returns-clause-in_order c = refl

pub returns-clause-early : goal.returns-clause-early
unfolding opened
returns-clause-early c = refl
