use Rattle.cl_nodes.proofs.Tracing.{one_for_each}
use Rattle.cl_nodes.proofs.laws.entries_have_one_trace.Goals as goal

pub returns : goal.returns
returns c = one_for_each c.texts_have_one_order.ensures.order
