use Rattle.std.proofs.Common.{rules}
use Rattle.cl_check.proofs.kinds.returned.Goals as goal

pub returns-in-Some : goal.returns-in-Some
returns-in-Some c = search rules
