use Rattle.std.proofs.Common.{refl, ap, ◌∙◌}
use Rattle.cl_shapes.specs.declared.name.CostName.TheVariants.{Iterate}
use Rattle.cl_meaning.specs.Scope.{sizes}
use Rattle.cl_audit_steps.specs.Steps.{fold_values}
use Rattle.cl_audit_steps.specs.Seen.{seen}
use Rattle.cl_audit_steps.proofs.ValueLaws.{charged_as}
use Rattle.cl_audit_steps.proofs.SequenceLaws.{callee_so, no_callee, two_folded, not_folded}
use Rattle.cl_audit_steps.proofs.sequences.on_fold.Goals as goal

pub returns-in_default : goal.returns-in_default
returns-in_default c outer take enter s = charged_as _ _ _ _ _ _ _ (seen c.args.scope.now outer) take enter s refl (c.in_ok-charge.ensures ∙ ap (λ vs. (Iterate, sizes vs)) c.deref.ensures.value) (no_callee _ (fold_values enter (seen c.args.scope.now outer) c.args.values.items) s c.in_default.ensures) c.charged_end.ensures

pub returns-in-Some-two : goal.returns-in-Some-two
returns-in-Some-two c outer take enter s = charged_as _ _ _ _ _ _ _ (seen c.args.scope.now outer) take enter s refl (c.in_ok-charge.ensures ∙ ap (λ vs. (Iterate, sizes vs)) c.deref.ensures.value) (callee_so _ _ (fold_values enter (seen c.args.scope.now outer) c.args.values.items) s c.in-Some.ensures ∙ two_folded enter (seen c.args.scope.now outer) c.args.values.items _ _ _ s c.in-Some-two.ensures) c.charged_end-in-Some-two.ensures

pub returns-in-None : goal.returns-in-None
returns-in-None c outer take enter s = charged_as _ _ _ _ _ _ _ (seen c.args.scope.now outer) take enter s refl (c.in_ok-charge.ensures ∙ ap (λ vs. (Iterate, sizes vs)) c.deref.ensures.value) (callee_so _ _ (fold_values enter (seen c.args.scope.now outer) c.args.values.items) s c.in-Some.ensures ∙ not_folded enter (seen c.args.scope.now outer) c.args.values.items _ s c.in-None.ensures) c.charged_end-in-None.ensures
