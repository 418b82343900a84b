use Rattle.std.proofs.Common.{None, ◌∙◌, ap, map}
use Rattle.cl_rules.specs.NativeTypes.{native_type}
use Rattle.cl_typing.proofs.VerdictLaws.{row_concluded}
use Rattle.cl_typing.proofs.verdicts.on_values.Goals as goal

pub returns : goal.returns
returns c = row_concluded (native_type c.args.native) None 0 c.args.parts.now _ c.native_type-ruled.result c.conclude.result (ap (map (λ t. t.now)) c.deref.ensures.value ∙ c.in_ok-types.ensures) c.native_type-ruled.ensures c.conclude.ensures
