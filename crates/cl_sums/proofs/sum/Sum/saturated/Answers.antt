use Rattle.std.proofs.Common.{rules}
use Rattle.cl_sums.proofs.sum.Sum.saturated.Goals as goal

pub returns : goal.returns
returns c = search rules
