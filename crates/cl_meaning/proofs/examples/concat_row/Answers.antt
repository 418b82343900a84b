use Rattle.std.proofs.Common.{refl}
use Rattle.cl_meaning.specs.Opened.{opened}
use Rattle.cl_meaning.proofs.examples.concat_row.Goals as goal

pub returns-clause-full : goal.returns-clause-full
unfolding opened
returns-clause-full c = refl

pub returns-clause-empty : goal.returns-clause-empty
unfolding opened
returns-clause-empty c = refl
