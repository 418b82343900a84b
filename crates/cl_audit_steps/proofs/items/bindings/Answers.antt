use Rattle.std.proofs.Common.{◌<◌, ◌≤◌, length, ap, ◌∙◌}
use Rattle.cl_forms.specs.Shapes.{bindings_of}
use Rattle.cl_audit_steps.proofs.ItemLaws.{onto, bindings_turn, bindings_stop, bindings_start, bindings_end}
use Rattle.cl_audit_steps.proofs.items.bindings.Goals as goal

pub returns-in-None : goal.returns-in-None
returns-in-None c =
    let here : c.loop-item.item-index < length c.args.items.now = c.loop-item-test.true in
    bindings_stop c.args.items.now _ _ _ _ here c.item-item.is c.in-None.ensures c.loop-item.invariant

pub loop-item-init : goal.loop-item-init
loop-item-init c = ap (λ l. onto l (bindings_of c.args.items.now)) c.in_ok-fields.ensures.items ∙ bindings_start _

pub loop-item-preserved : goal.loop-item-preserved
loop-item-preserved c =
    let here : c.loop-item.item-index < length c.args.items.now = c.loop-item-test.true in
    bindings_turn c.args.items.now _ _ _ _ _ _ here c.item-item.is c.in-Some.ensures c.in_ok-push-in-Some.ensures.items c.loop-item.invariant

pub returns : goal.returns
returns c =
    let past : length c.args.items.now ≤ c.loop-item.item-index = c.loop-item-test.false in
    bindings_end c.args.items.now _ _ _ past c.loop-item.invariant
