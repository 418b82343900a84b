use Rattle.cl_types.proofs.KeyOrder.{below_below, same_or_below}
use Rattle.cl_types.proofs.laws.keys_are_ordered.Goals as goal

pub returns-clause-goes_on : goal.returns-clause-goes_on
returns-clause-goes_on c = below_below

pub returns-clause-total : goal.returns-clause-total
returns-clause-total c = same_or_below
