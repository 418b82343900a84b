use Rattle.cl_sexpr.proofs.Places.{reads_placed}
use Rattle.cl_sexpr.proofs.order.items_stand_in_order.Goals as goal

pub returns : goal.returns
returns c = reads_placed
