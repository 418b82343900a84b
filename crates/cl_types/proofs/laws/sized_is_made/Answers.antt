use Rattle.cl_types.proofs.Made.{sized_is_made}
use Rattle.cl_types.proofs.laws.sized_is_made.Goals as goal

pub returns : goal.returns
returns c = sized_is_made
