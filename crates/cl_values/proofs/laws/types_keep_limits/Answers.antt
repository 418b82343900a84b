use Rattle.cl_values.proofs.OfTypes.{valid_by}
use Rattle.cl_values.proofs.laws.types_keep_limits.Goals as goal

pub returns : goal.returns
returns c = valid_by
