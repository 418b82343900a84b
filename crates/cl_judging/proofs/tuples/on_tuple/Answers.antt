use Rattle.std.proofs.Common.{None, ap, map, ◌∙◌}
use Rattle.cl_rules.specs.DataShapes.{tuple_row}
use Rattle.cl_typing.proofs.VerdictLaws.{row_concluded}
use Rattle.cl_judging.proofs.tuples.on_tuple.Goals as goal

pub returns : goal.returns
returns c = row_concluded (tuple_row c.args.keys.now) None 0 c.args.parts.now _ c.tuple_type-ruled.result c.conclude.result (ap (map (λ t. t.now)) c.deref.ensures.value ∙ c.in_ok-types.ensures) c.tuple_type-ruled.ensures c.conclude.ensures
