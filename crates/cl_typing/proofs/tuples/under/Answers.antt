use Rattle.std.proofs.Common.{sym, ap, subst, ◌∙◌}
use Rattle.cl_types.specs.Sized.{AreSized}
use Rattle.cl_types.specs.SizedParts.{first_field, rest_fields}
use Rattle.cl_types.specs.TypeRows.{fields_at}
use Rattle.cl_rules.specs.NativeTypes.{type_of_key}
use Rattle.cl_typing.proofs.TupleRows.{other_key}
use Rattle.cl_typing.proofs.tuples.under.Goals as goal

pub returns-then-eq-clause-sized : goal.returns-then-eq-clause-sized
returns-then-eq-clause-sized c =
    first_field _ _ _ (subst AreSized (fields_at c.args.row.now c.loop-field.field-index c.field-item.result c.loop-field-test.true c.field-item.is) c.loop-field.invariant.sized)

pub loop-field-preserved : goal.loop-field-preserved
loop-field-preserved c =
    let at = fields_at c.args.row.now c.loop-field.field-index c.field-item.result c.loop-field-test.true c.field-item.is in
    record {
      left = sym (ap (type_of_key c.args.key.now) at ∙ other_key c.args.key.now c.field-item.result.0 c.field-item.result.1 _ (sym c.eq.ensures ∙ c.if-eq.false)) ∙ c.loop-field.invariant.left;
      sized = rest_fields _ _ _ (subst AreSized at c.loop-field.invariant.sized);
    }
