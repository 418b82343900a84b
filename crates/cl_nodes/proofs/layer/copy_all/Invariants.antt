use Rattle.std.proofs.Common.{◌≡◌, take}
use Rattle.cl_nodes.proofs.layer.copy_all.Given as goal

abbrev pub invariant-loop-event : goal.invariant-loop-event
invariant-loop-event l = l.copies.items ≡ take l.event-index l.events
