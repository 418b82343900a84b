use Rattle.std.proofs.Common.{sym}
use Rattle.cl_judging.proofs.LetWalks.{bindings_turn, bindings_end, no_odd, sound_next, push_count}
use Rattle.cl_judging.proofs.scope.bindings_in.Goals as goal

pub loop-item-preserved : goal.loop-item-preserved
loop-item-preserved c = record {
  text = bindings_turn c.args.items.now c.loop-item.item-index c.item-item.result c.in-Some.binding c.in-Some.field-0-1.now c.loop-item.bindings.items c.push.new.self.items c.loop-item-test.true (sym c.item-item.is) c.in-Some.ensures.some c.in_ok-push.ensures.items c.loop-item.invariant.text;
  count = push_count c.loop-item.bindings.items c.push.new.self.items c.in-Some.binding c.loop-item.item-index c.in_ok-push.ensures.items c.loop-item.invariant.count;
  sound = sound_next c.args.items.now c.loop-item.item-index c.item-item.result c.loop-item-test.true (sym c.item-item.is) c.loop-item.invariant.sound;
}

pub returns-clause-text : goal.returns-clause-text
returns-clause-text c = bindings_end c.args.items.now c.loop-item.item-index c.loop-item.bindings.items c.loop-item-test.false c.loop-item.invariant.text

pub unreachable-requires : goal.unreachable-requires
unreachable-requires c = no_odd c.args.items.now c.loop-item.item-index c.item-item.result c.loop-item-test.true (sym c.item-item.is) c.in_default.ensures.none c.loop-item.invariant.sound
