use Rattle.std.proofs.Common.{None, ap, map, ◌∙◌}
use Rattle.cl_judging.specs.Named.{name_row, seen_given}
use Rattle.cl_judging.proofs.NamedShapes.{named_judged}
use Rattle.cl_typing.proofs.VerdictLaws.{row_concluded}
use Rattle.cl_judging.proofs.named.on_name.Goals as goal

pub returns : goal.returns
returns c = named_judged c.args.native (seen_given c.args.given.now) c.args.parts.now c.conclude.result (row_concluded (name_row c.args.native (seen_given c.args.given.now)) None 0 c.args.parts.now _ c.name_type-ruled.result c.conclude.result (ap (map (λ t. t.now)) c.deref.ensures.value ∙ c.in_ok-types.ensures) c.name_type-ruled.ensures c.conclude.ensures)
