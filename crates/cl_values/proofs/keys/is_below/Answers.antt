use Rattle.std.proofs.Common.{rules}
use Rattle.cl_values.proofs.keys.is_below.Goals as goal

pub returns : goal.returns
returns c = search rules
