use Rattle.cl_order.proofs.Apart.{not_both, order_found, ring_found}
use Rattle.cl_order.proofs.laws.good_order_or_cycle.Goals as goal

pub returns-clause-either : goal.returns-clause-either
returns-clause-either c = not_both

pub returns-clause-order : goal.returns-clause-order
returns-clause-order c = order_found

pub returns-clause-cycle : goal.returns-clause-cycle
returns-clause-cycle c = ring_found
