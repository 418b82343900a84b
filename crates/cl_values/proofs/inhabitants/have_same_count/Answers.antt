use Rattle.std.proofs.Common.{rules}
use Rattle.cl_values.proofs.inhabitants.have_same_count.Goals as goal

pub returns : goal.returns
returns c = search rules
