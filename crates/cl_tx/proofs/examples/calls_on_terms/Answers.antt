use Rattle.std.proofs.Common.{refl}
use Rattle.cl_tx.specs.StepRows.{opened}
use Rattle.cl_tx.proofs.examples.calls_on_terms.Goals as goal

pub returns-clause-enough : goal.returns-clause-enough
unfolding opened
returns-clause-enough c = refl

pub returns-clause-too_little : goal.returns-clause-too_little
unfolding opened
returns-clause-too_little c = refl

pub returns-clause-allowed : goal.returns-clause-allowed
unfolding opened
returns-clause-allowed c = refl

pub returns-clause-denied : goal.returns-clause-denied
unfolding opened
returns-clause-denied c = refl

pub returns-clause-named : goal.returns-clause-named
unfolding opened
returns-clause-named c = refl

pub returns-clause-other : goal.returns-clause-other
unfolding opened
returns-clause-other c = refl

pub returns-clause-failing : goal.returns-clause-failing
unfolding opened
returns-clause-failing c = refl
