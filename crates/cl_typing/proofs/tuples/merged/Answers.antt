use Rattle.std.proofs.Common.{sym, refl}
use Rattle.cl_typing.proofs.TupleRows.{unlike_next, unlike_end, like_next, like_end}
use Rattle.cl_typing.proofs.tuples.merged.Goals as goal

pub loop-field-init : goal.loop-field-init
loop-field-init c = rw c.new-row.ensures.items refl

pub loop-field-preserved : goal.loop-field-preserved
loop-field-preserved c =
    unlike_next c.args.second.now c.args.first.now c.loop-field.row.items _ _ c.loop-field.field-index c.field-item.result c.loop-field-test.true (sym c.field-item.is) c.in_ok-push_unlike.ensures c.loop-field.invariant

pub loop-field-2-init : goal.loop-field-2-init
loop-field-2-init c = unlike_end c.args.second.now c.args.first.now c.loop-field.row.items _ c.loop-field.field-index c.loop-field-test.false c.loop-field.invariant

pub loop-field-2-preserved : goal.loop-field-2-preserved
loop-field-2-preserved c =
    like_next c.args.second.now c.loop-field-2.row.items _ _ c.loop-field-2.field-index c.field-item-in-loop-field-2.result c.loop-field-2-test.true (sym c.field-item-in-loop-field-2.is) c.in_ok-push_copy.ensures c.loop-field-2.invariant

pub returns : goal.returns
returns c = like_end c.args.second.now c.loop-field-2.row.items _ c.loop-field-2.field-index c.loop-field-2-test.false c.loop-field-2.invariant
