use Rattle.std.proofs.Common.{rules}
use Rattle.cl_values.proofs.leaves.compare_counted.Goals as goal

pub returns : goal.returns
returns c = search rules
