use Rattle.std.proofs.Common.{arith, ap, ◌∙◌}
use Rattle.std.proofs.lemmas.List.{take_all}
use Rattle.cl_types.specs.Types.{PlainType}
use Rattle.cl_types.specs.TypeFalls.{field_falls}
use Rattle.cl_types.proofs.ty.+copy.Goals as goal
use Rattle.cl_types.proofs.Copies.{copied}

pub copy_fields-copy-requires : goal.copy_fields-copy-requires
copy_fields-copy-requires t c =
    (omega (arith, field_falls c.args.fields.now c.loop-field.field-index c.field-item.result c.loop-field-test.true c.field-item.is, c.decreases), tt)

pub copy_fields-loop-field-preserved : goal.copy_fields-loop-field-preserved
copy_fields-loop-field-preserved t c =
    c.in_ok-push.ensures.items
    ∙ copied c.args.fields.now c.loop-field.copies.items c.loop-field.field-index c.field-item.result (c.field-item.result.0, c.in_ok-part.part) c.loop-field-test.true c.field-item.is c.loop-field.invariant (ap (λ (ty : PlainType). (c.field-item.result.0, ty)) c.in_ok-part.ensures)

pub copy_fields-returns : goal.copy_fields-returns
copy_fields-returns t c = c.loop-field.invariant ∙ take_all c.loop-field.field-index c.args.fields.now c.loop-field-test.false
