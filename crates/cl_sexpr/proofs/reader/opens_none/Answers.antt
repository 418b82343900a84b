use Rattle.std.proofs.Common.{rules}
use Rattle.cl_sexpr.proofs.reader.opens_none.Goals as goal

pub returns-else-depth-ge-MOST_OPEN : goal.returns-else-depth-ge-MOST_OPEN
returns-else-depth-ge-MOST_OPEN c = search rules
