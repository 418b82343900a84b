use Rattle.std.proofs.Common.{◌≡◌, ◌<◌, drop, map, length, get_or, Option, Some, None, rules, arith}
use Rattle.std.specs.Vec.Iter.{into_iter_items}
use Rattle.cl_forms.specs.Forms.{Form}
use Rattle.cl_code.specs.declared.definition.Definition.{Definition}
use Rattle.cl_check.specs.Placing.{put_all}
use Rattle.cl_check.proofs.InTextOrder.{one_put, is_within, fewer, one_less, as_wide, all_put}
use Rattle.cl_check.proofs.placing.filled.Goals as goal

pub loop-definition-preserved : goal.loop-definition-preserved
loop-definition-preserved c = record {
  count = one_less c.loop-definition.done (into_iter_items c.loop-definition.definition-iterator) (into_iter_items c.next.new.self) c.in-Some.definition (length c.args.order.now) c.in-Some.ensures.steps.0 c.loop-definition.invariant.count;
  room = as_wide c.loop-definition.slots.items c.put.new.slots.items (get_or c.args.order.now c.loop-definition.done 0) (Some c.in-Some.definition) (length c.args.forms.now) c.put.ensures c.loop-definition.invariant.room;
  put = one_put c.loop-definition.slots.items c.put.new.slots.items (put_all (map (λ (f : Form). let o : Option Definition = None in o) c.args.forms.now) c.args.order.now c.args.definitions.items) c.args.order.now c.loop-definition.done c.in-Some.definition
      (into_iter_items c.loop-definition.definition-iterator) (into_iter_items c.next.new.self) (fewer c.loop-definition.done (into_iter_items c.loop-definition.definition-iterator) (into_iter_items c.next.new.self) c.in-Some.definition (length c.args.order.now) c.in-Some.ensures.steps.0 c.loop-definition.invariant.count)
      c.in-Some.ensures.steps.0 c.put.ensures c.loop-definition.invariant.put;
}

-- a place is left for each definition that is left
pub offset_bounds-order-done : goal.offset_bounds-order-done
offset_bounds-order-done c =
    let within : c.loop-definition.done < length c.args.order.now = fewer c.loop-definition.done (into_iter_items c.loop-definition.definition-iterator) (into_iter_items c.next.new.self) c.in-Some.definition (length c.args.order.now) c.in-Some.ensures.steps.0 c.loop-definition.invariant.count in
    search rules

pub bounds-order-done : goal.bounds-order-done
bounds-order-done c = fewer c.loop-definition.done (into_iter_items c.loop-definition.definition-iterator) (into_iter_items c.next.new.self) c.in-Some.definition (length c.args.order.now) c.in-Some.ensures.steps.0 c.loop-definition.invariant.count

pub put-requires : goal.put-requires
put-requires c =
    let low : c.loop-definition.done < length c.args.order.now = fewer c.loop-definition.done (into_iter_items c.loop-definition.definition-iterator) (into_iter_items c.next.new.self) c.in-Some.definition (length c.args.order.now) c.in-Some.ensures.steps.0 c.loop-definition.invariant.count in
    omega (arith, is_within c.args.order.now c.loop-definition.done (length c.args.forms.now) c.requires.within low, c.loop-definition.invariant.room)

pub returns : goal.returns
returns c =
    let empty : length (into_iter_items c.loop-definition.definition-iterator) ≡ 0 = omega (arith, c.loop-definition.definition-iterator.rest.ok.0, c.in-None.ensures.steps.0) in
    all_put c.loop-definition.slots.items (put_all (map (λ (f : Form). let o : Option Definition = None in o) c.args.forms.now) c.args.order.now c.args.definitions.items) (drop c.loop-definition.done c.args.order.now) (into_iter_items c.loop-definition.definition-iterator) empty c.loop-definition.invariant.put
