use Rattle.std.proofs.Common.{refl}
use Rattle.cl_meaning.specs.Opened.{opened}
use Rattle.cl_meaning.proofs.examples.pay_row.Goals as goal

pub returns-clause-value : goal.returns-clause-value
unfolding opened
returns-clause-value c = refl

pub returns-clause-state : goal.returns-clause-state
unfolding opened
returns-clause-state c = refl

pub returns-clause-cost : goal.returns-clause-cost
unfolding opened
returns-clause-cost c = refl
