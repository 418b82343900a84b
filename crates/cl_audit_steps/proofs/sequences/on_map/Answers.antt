use Rattle.std.proofs.Common.{refl, ap, ◌∙◌}
use Rattle.cl_shapes.specs.declared.name.CostName.TheVariants.{Iterate}
use Rattle.cl_meaning.specs.Scope.{sizes}
use Rattle.cl_meaning.specs.Sequences.{mapped}
use Rattle.cl_audit_steps.specs.Seen.{seen}
use Rattle.cl_audit_steps.proofs.ValueLaws.{charged_as}
use Rattle.cl_audit_steps.proofs.SequenceLaws.{callee_so, no_callee}
use Rattle.cl_audit_steps.proofs.sequences.on_map.Goals as goal

pub returns-in-Some : goal.returns-in-Some
returns-in-Some c outer take enter s = charged_as _ _ _ _ _ _ _ (seen c.args.scope.now outer) take enter s refl (c.in_ok-charge.ensures ∙ ap (λ vs. (Iterate, sizes vs)) c.deref.ensures.value) (callee_so _ _ (mapped enter (seen c.args.scope.now outer) c.args.values.items) s c.in-Some.ensures) c.charged_end.ensures

pub returns : goal.returns
returns c outer take enter s = charged_as _ _ _ _ _ _ _ (seen c.args.scope.now outer) take enter s refl (c.in_ok-charge.ensures ∙ ap (λ vs. (Iterate, sizes vs)) c.deref.ensures.value) (no_callee _ (mapped enter (seen c.args.scope.now outer) c.args.values.items) s c.in-None.ensures) c.charged_end-in-None.ensures
