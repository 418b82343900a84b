use Rattle.std.proofs.Common.{map, ap, ◌∙◌}
use Rattle.cl_typing.proofs.IterationRows.{map_judged}
use Rattle.cl_typing.proofs.iterations.on_map.Goals as goal

pub returns : goal.returns
returns c =
    map_judged c.args.used.now c.use_height.result c.use_height.ensures c.map_type-ruled.result c.conclude.result c.args.parts.now (map (λ t. t.now) c.deref.result.now)
    (ap (map (λ t. t.now)) c.deref.ensures.value ∙ c.in_ok-types.ensures) c.map_type-ruled.ensures c.conclude.ensures
