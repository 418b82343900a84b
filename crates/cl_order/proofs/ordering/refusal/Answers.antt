use Rattle.cl_order.proofs.Refused.{span_there}
use Rattle.cl_order.proofs.ordering.refusal.Goals as goal

pub unreachable-requires : goal.unreachable-requires
unreachable-requires c = span_there c.args.forms.now c.args.cycle.now c.requires c.in_default.ensures
