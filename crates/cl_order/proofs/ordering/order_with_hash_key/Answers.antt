use Rattle.cl_order.proofs.Good.{order_good}
use Rattle.cl_order.proofs.Refused.{of_cycle_ring}
use Rattle.cl_order.proofs.ordering.order_with_hash_key.Goals as goal

pub returns-in-Ok-clause-good : goal.returns-in-Ok-clause-good
returns-in-Ok-clause-good c = order_good c.args.forms.now c.in-Ok.order.items c.in-Ok.ensures.order

pub returns-in-Err-Refused-clause-ring : goal.returns-in-Err-Refused-clause-ring
returns-in-Err-Refused-clause-ring c =
    let r = c.in_ok-refusal-in-Err-Refused.ensures in
    of_cycle_ring c.args.forms.now c.in_ok-refusal-in-Err-Refused.field-0.names.items r.places r.met r.names_are
