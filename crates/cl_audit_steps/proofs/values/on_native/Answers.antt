use Rattle.std.proofs.Common.{ap, ◌∙◌}
use Rattle.cl_values.specs.Natives.{native_value}
use Rattle.cl_meaning.specs.Values.{number_of}
use Rattle.cl_audit_steps.proofs.ValueLaws.{native_is, charged_as}
use Rattle.cl_audit_steps.proofs.values.on_native.Goals as goal

pub returns : goal.returns
returns c S take enter s = charged_as _ _ _ _ _ _ _ S take enter s (native_is c.args.native c.args.cost c.args.values.items s) (c.in_ok-charge.ensures ∙ ap (λ vs. (c.args.cost, number_of c.args.cost vs)) c.deref.ensures.value) (c.in_ok-computed_last.ensures (native_value c.args.native c.args.values.items) c.apply_native.ensures S take enter s) c.charged_end.ensures
