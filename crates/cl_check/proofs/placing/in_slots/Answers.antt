use Rattle.std.proofs.Common.{◌≡◌, filter_map, length, arith}
use Rattle.std.specs.Vec.Iter.{into_iter_items}
use Rattle.cl_check.proofs.InTextOrder.{kept, all_kept}
use Rattle.cl_check.proofs.placing.in_slots.Goals as goal

pub loop-slot-preserved : goal.loop-slot-preserved
loop-slot-preserved c =
    kept c.loop-slot.definitions.items c.keep.new.definitions.items (filter_map (λ o. o) c.args.slots.items) c.in-Some.slot (into_iter_items c.loop-slot.slot-iterator) (into_iter_items c.next.new.self)
    c.in-Some.ensures.steps.0 c.in_ok-keep.ensures c.loop-slot.invariant

pub returns : goal.returns
returns c =
    let empty : length (into_iter_items c.loop-slot.slot-iterator) ≡ 0 = omega (arith, c.loop-slot.slot-iterator.rest.ok.0, c.in-None.ensures.steps.0) in
    all_kept c.loop-slot.definitions.items (filter_map (λ o. o) c.args.slots.items) (into_iter_items c.loop-slot.slot-iterator) empty c.loop-slot.invariant
