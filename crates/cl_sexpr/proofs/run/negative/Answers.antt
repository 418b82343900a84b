use Rattle.std.proofs.Common.{rules}
use Rattle.cl_sexpr.proofs.run.negative.Goals as goal

pub returns-in_default : goal.returns-in_default
returns-in_default c = search rules
