use Rattle.std.proofs.Common.{refl}
use Rattle.cl_meaning.specs.Opened.{opened}
use Rattle.cl_meaning.proofs.examples.node_rows.Goals as goal

pub returns-clause-leaves : goal.returns-clause-leaves
unfolding opened
returns-clause-leaves c = refl

pub returns-clause-control : goal.returns-clause-control
unfolding opened
returns-clause-control c = refl

pub returns-clause-values : goal.returns-clause-values
unfolding opened
returns-clause-values c = refl

pub returns-clause-state : goal.returns-clause-state
unfolding opened
returns-clause-state c = refl

pub returns-clause-tokens : goal.returns-clause-tokens
unfolding opened
returns-clause-tokens c = refl

pub returns-clause-sequences : goal.returns-clause-sequences
unfolding opened
returns-clause-sequences c = refl

pub returns-clause-calls : goal.returns-clause-calls
unfolding opened
returns-clause-calls c = refl

pub returns-clause-wrong : goal.returns-clause-wrong
unfolding opened
returns-clause-wrong c = refl
