use Rattle.cl_order.proofs.Rings.{cycle_found}
use Rattle.cl_order.proofs.laws.cycles_are_rings.Goals as goal

pub returns : goal.returns
returns c = cycle_found
