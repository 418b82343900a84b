use Rattle.std.proofs.Common.{◌≡◌, suc, length, drop, ap, arith}
use Rattle.std.specs.Vec.Iter.{into_iter_items}
use Rattle.cl_operands.specs.Sieved.{chosen}
use Rattle.cl_operands.proofs.SieveLaws.{chosen_turn, chosen_end}
use Rattle.cl_operands.proofs.sieving.flagged_items.Goals as goal

pub loop-item-preserved : goal.loop-item-preserved
loop-item-preserved g c =
    let shorter : length (into_iter_items c.loop-item.item-iterator) ≡ suc (length (into_iter_items c.next.new.self)) = ap length c.in-Some.ensures.steps.0 in
    record {
      so_far = chosen_turn c.in-Some.item (into_iter_items c.next.new.self) (into_iter_items c.loop-item.item-iterator) c.args.flags.now c.loop-item.place c.flag_at.result c.loop-item.kept.items c.in_ok-kept.kept.items (chosen c.args.items.items c.args.flags.now) c.in-Some.ensures.steps.0 c.flag_at.ensures c.in_ok-kept.ensures c.loop-item.invariant.so_far;
      at = omega (arith, shorter, c.loop-item.invariant.at);
    }

pub returns : goal.returns
returns g c =
    let empty : length c.loop-item.item-iterator.rest.items ≡ 0 = omega (arith, c.loop-item.item-iterator.rest.ok.0, c.in-None.ensures.steps.0) in
    chosen_end (into_iter_items c.loop-item.item-iterator) (drop c.loop-item.place c.args.flags.now) c.loop-item.kept.items (chosen c.args.items.items c.args.flags.now) empty c.loop-item.invariant.so_far
