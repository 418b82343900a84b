use Rattle.std.proofs.Common.{None, ap, map, ◌∙◌}
use Rattle.cl_rules.specs.NativeTypes.{max_len_row, one}
use Rattle.cl_typing.proofs.VerdictLaws.{row_concluded}
use Rattle.cl_judging.proofs.max_len.on_max_len.Goals as goal

pub returns : goal.returns
returns c = row_concluded (one (max_len_row c.args.most)) None 0 c.args.parts.now _ c.max_len_type-ruled.result c.conclude.result (ap (map (λ t. t.now)) c.deref.ensures.value ∙ c.in_ok-types.ensures) c.max_len_type-ruled.ensures c.conclude.ensures
