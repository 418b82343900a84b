use Rattle.cl_rules.proofs.ComputedBounds.{one_line_contracts, bounds, token_bounds}
use Rattle.cl_rules.proofs.examples.bounds_of_examples.Goals as goal

pub returns-clause-one_line : goal.returns-clause-one_line
returns-clause-one_line c = one_line_contracts

pub returns-clause-counter : goal.returns-clause-counter
returns-clause-counter c = bounds

pub returns-clause-token : goal.returns-clause-token
returns-clause-token c = token_bounds
