use Rattle.cl_shapes.proofs.FirstAbove.{first_above-none, first_above-some}
use Rattle.cl_shapes.proofs.cost.Cost5.first_above_is_first.Goals as goal

pub returns-clause-none : goal.returns-clause-none
returns-clause-none c = first_above-none

pub returns-clause-named : goal.returns-clause-named
returns-clause-named c = first_above-some
