use Rattle.cl_rules.proofs.ComputedBounds.{bounds_of_chains, heights_of_chains}
use Rattle.cl_rules.proofs.examples.chains_of_functions.Goals as goal

pub returns-clause-bounds : goal.returns-clause-bounds
returns-clause-bounds c = bounds_of_chains

pub returns-clause-heights : goal.returns-clause-heights
returns-clause-heights c = heights_of_chains
