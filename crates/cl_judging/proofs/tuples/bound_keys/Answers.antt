use Rattle.std.proofs.Common.{List, filter_map, sym, ap, ◌∙◌}
use Rattle.cl_sexpr.specs.Tree.{Tree}
use Rattle.cl_forms.specs.Shapes.{binding_of}
use Rattle.cl_rules.specs.DataShapes.{keys_of}
use Rattle.cl_typing.proofs.InOrder.{all_taken}
use Rattle.cl_judging.proofs.LetWalks.{no_odd, sound_next}
use Rattle.cl_judging.proofs.TupleShapes.{keys_push}
use Rattle.cl_judging.proofs.tuples.bound_keys.Goals as goal

pub loop-item-preserved : goal.loop-item-preserved
loop-item-preserved c = record {
  so_far = keys_push c.args.items.now c.loop-item.item-index c.item-item.result c.in-Some.binding c.in-Some.field-0-1.now c.loop-item.keys.items c.push.new.self.items c.loop-item-test.true (sym c.item-item.is) c.in-Some.ensures.some c.in_ok-push.ensures.items c.loop-item.invariant.so_far;
  sound = sound_next c.args.items.now c.loop-item.item-index c.item-item.result c.loop-item-test.true (sym c.item-item.is) c.loop-item.invariant.sound;
}

pub unreachable-requires : goal.unreachable-requires
unreachable-requires c = no_odd c.args.items.now c.loop-item.item-index c.item-item.result c.loop-item-test.true (sym c.item-item.is) c.in_default.ensures.none c.loop-item.invariant.sound

pub returns : goal.returns
returns c = c.loop-item.invariant.so_far ∙ ap (λ (ts : List Tree). keys_of (filter_map binding_of ts)) (all_taken c.args.items.now c.loop-item.item-index c.loop-item-test.false)
