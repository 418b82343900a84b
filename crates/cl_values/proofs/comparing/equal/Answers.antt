use Rattle.std.proofs.Common.{rules}
use Rattle.cl_values.proofs.comparing.equal.Goals as goal

pub returns : goal.returns
returns c = search rules
