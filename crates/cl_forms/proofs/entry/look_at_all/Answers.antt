use Rattle.std.proofs.Common.{◌≡◌, map, length, arith}
use Rattle.std.specs.Vec.Iter.{into_iter_items}
use Rattle.cl_forms.specs.Looks.{look_at, plain_entry}
use Rattle.cl_forms.proofs.Moved.{one_moved, all_moved}
use Rattle.cl_forms.proofs.entry.look_at_all.Goals as goal

pub loop-item-preserved : goal.loop-item-preserved
loop-item-preserved c =
    one_moved plain_entry look_at c.loop-item.entries.items c.push.new.self.items c.in_ok-look_at.field-0 (into_iter_items c.loop-item.item-iterator) (into_iter_items c.next.new.self) c.in-Some.item (map look_at c.args.items.items)
    c.in_ok-push.ensures.items c.in-Some.ensures.steps.0 c.in_ok-look_at.ensures c.loop-item.invariant

pub returns : goal.returns
returns c =
    let empty : length (into_iter_items c.loop-item.item-iterator) ≡ 0 = omega (arith, c.loop-item.item-iterator.rest.ok.0, c.in-None.ensures.steps.0) in
    all_moved plain_entry look_at c.loop-item.entries.items (into_iter_items c.loop-item.item-iterator) (map look_at c.args.items.items) empty c.loop-item.invariant
