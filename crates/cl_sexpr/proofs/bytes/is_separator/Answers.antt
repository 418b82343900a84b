use Rattle.std.proofs.Common.{rules}
use Rattle.cl_sexpr.proofs.bytes.is_separator.Goals as goal

pub returns-else-c-eq10 : goal.returns-else-c-eq10
returns-else-c-eq10 c = search rules
