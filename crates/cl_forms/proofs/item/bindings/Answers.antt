use Rattle.std.proofs.Common.{◌≡◌, length, arith}
use Rattle.std.specs.Vec.Iter.{into_iter_items}
use Rattle.cl_forms.specs.Shapes.{bindings_of}
use Rattle.cl_forms.specs.ItemView.{behind}
use Rattle.cl_forms.proofs.Moved.{one_bound, all_bound}
use Rattle.cl_forms.proofs.item.bindings.Goals as goal

pub loop-item-preserved : goal.loop-item-preserved
loop-item-preserved c =
    one_bound c.loop-item.list.items c.push.new.self.items c.in-Some-binding.pair (into_iter_items c.loop-item.item-iterator) (into_iter_items c.next-in-loop-item.new.self) c.in-Some.item (bindings_of (behind c.args.items.items))
    c.in_ok-push-in-Some-binding.ensures.items c.in-Some.ensures.steps.0 c.in-Some-binding.ensures c.loop-item.invariant

pub returns : goal.returns
returns c =
    let empty : length (into_iter_items c.loop-item.item-iterator) ≡ 0 = omega (arith, c.loop-item.item-iterator.rest.ok.0, c.in-None.ensures.steps.0) in
    all_bound c.loop-item.list.items (into_iter_items c.loop-item.item-iterator) (bindings_of (behind c.args.items.items)) empty c.loop-item.invariant
