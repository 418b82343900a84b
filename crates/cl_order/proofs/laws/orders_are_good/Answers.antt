use Rattle.cl_order.proofs.Good.{order_good}
use Rattle.cl_order.proofs.laws.orders_are_good.Goals as goal

pub returns : goal.returns
returns c = order_good
