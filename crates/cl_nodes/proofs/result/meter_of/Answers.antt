use Rattle.std.proofs.Common.{rules}
use Rattle.cl_nodes.proofs.result.meter_of.Goals as goal

pub returns : goal.returns
returns c = search rules
