use Rattle.std.proofs.Common.{sym, ap, ◌∙◌}
use Rattle.cl_typing.proofs.InOrder.{all_taken}
use Rattle.cl_judging.specs.LetWalk.{exprs_of}
use Rattle.cl_judging.proofs.LetWalks.{no_odd, sound_next}
use Rattle.cl_judging.proofs.TupleShapes.{exprs_push}
use Rattle.cl_judging.proofs.tuples.bound_exprs.Goals as goal

pub loop-item-preserved : goal.loop-item-preserved
loop-item-preserved c = record {
  so_far = exprs_push c.args.items.now c.loop-item.item-index c.item-item.result c.in-Some.field-0-0 c.loop-item.exprs.items c.push.new.self.items c.in-Some.e c.loop-item-test.true (sym c.item-item.is) c.in-Some.ensures.some c.in_ok-push.ensures.items c.loop-item.invariant.so_far;
  sound = sound_next c.args.items.now c.loop-item.item-index c.item-item.result c.loop-item-test.true (sym c.item-item.is) c.loop-item.invariant.sound;
}

pub unreachable-requires : goal.unreachable-requires
unreachable-requires c = no_odd c.args.items.now c.loop-item.item-index c.item-item.result c.loop-item-test.true (sym c.item-item.is) c.in_default.ensures.none c.loop-item.invariant.sound

pub returns : goal.returns
returns c = c.loop-item.invariant.so_far ∙ ap exprs_of (all_taken c.args.items.now c.loop-item.item-index c.loop-item-test.false)
