use Rattle.cl_sexpr.proofs.LiteralsFit.{items_fit}
use Rattle.cl_sexpr.proofs.order.literals_are_within_limits.Goals as goal

pub returns : goal.returns
returns c = items_fit
