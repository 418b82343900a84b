use Rattle.std.proofs.Common.{rules}
use Rattle.cl_nodes.proofs.layer.failing.Goals as goal

pub returns : goal.returns
returns c = search rules
