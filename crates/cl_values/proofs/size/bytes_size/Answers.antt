use Rattle.std.proofs.Common.{rules}
use Rattle.cl_values.proofs.size.bytes_size.Goals as goal

pub returns-clause-counted : goal.returns-clause-counted
returns-clause-counted c = search rules
