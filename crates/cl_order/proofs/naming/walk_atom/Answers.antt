use Rattle.std.proofs.Common.{rules}
use Rattle.cl_order.proofs.naming.walk_atom.Goals as goal

pub returns-in-Contract : goal.returns-in-Contract
returns-in-Contract c = search rules
