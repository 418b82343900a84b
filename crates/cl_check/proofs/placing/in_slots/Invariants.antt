use Rattle.std.proofs.Common.{◌≡◌, ◌++◌, filter_map}
use Rattle.std.specs.Vec.Iter.{into_iter_items}
use Rattle.cl_check.proofs.placing.in_slots.Given as goal

abbrev pub invariant-loop-slot : goal.invariant-loop-slot
invariant-loop-slot l = l.definitions.items ++ filter_map (λ o. o) (into_iter_items l.slot-iterator) ≡ filter_map (λ o. o) l.fn.slots.items
