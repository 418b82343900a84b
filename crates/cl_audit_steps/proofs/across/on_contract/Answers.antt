use Rattle.std.proofs.Common.{refl, ap, ◌∙◌}
use Rattle.cl_shapes.specs.declared.name.CostName.TheVariants.{ContractCall}
use Rattle.cl_meaning.specs.Scope.{called, in_frame}
use Rattle.cl_audit_steps.proofs.ValueLaws.{charged_as}
use Rattle.cl_audit_steps.proofs.SequenceLaws.{entered_there, not_entered}
use Rattle.cl_audit_steps.proofs.across.on_contract.Goals as goal

pub returns-in-Some : goal.returns-in-Some
returns-in-Some c S take enter s = charged_as _ _ _ _ _ _ _ S take enter s refl (c.in_ok-charge.ensures ∙ ap (λ n. (ContractCall, n)) c.from.ensures) (entered_there _ c.in-Some.function enter (in_frame (called c.args.contract.now.principal S.frame) S) c.args.values.items s c.in-Some.ensures) c.charged_end.ensures

pub returns-in-None : goal.returns-in-None
returns-in-None c S take enter s = charged_as _ _ _ _ _ _ _ S take enter s refl (c.in_ok-charge.ensures ∙ ap (λ n. (ContractCall, n)) c.from.ensures) (not_entered _ enter (in_frame (called c.args.contract.now.principal S.frame) S) c.args.values.items s c.in-None.ensures) c.charged_end-in-None.ensures
