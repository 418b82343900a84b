use Rattle.std.proofs.Common.{◌<◌, ◌≤◌, ◌++◌, length, refl, ap}
use Rattle.cl_audit_steps.specs.Items.{fields_seen}
use Rattle.cl_audit_steps.proofs.ItemLaws.{fields_turn, fields_end}
use Rattle.cl_audit_steps.proofs.items.fields.Goals as goal

pub loop-pair-init : goal.loop-pair-init
loop-pair-init c = ap (λ l. fields_seen l ++ c.args.pairs.now) c.in_ok-fields.ensures.items

pub loop-pair-preserved : goal.loop-pair-preserved
loop-pair-preserved c =
    let here : c.loop-pair.pair-index < length c.args.pairs.now = c.loop-pair-test.true in
    fields_turn c.args.pairs.now _ _ _ _ _ _ here c.pair-item.is refl c.in_ok-push.ensures.items c.loop-pair.invariant

pub returns : goal.returns
returns c =
    let past : length c.args.pairs.now ≤ c.loop-pair.pair-index = c.loop-pair-test.false in
    fields_end c.args.pairs.now _ _ _ past c.loop-pair.invariant
