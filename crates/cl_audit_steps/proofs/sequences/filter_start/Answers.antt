use Rattle.std.proofs.Common.{◌∙◌}
use Rattle.cl_audit_steps.proofs.FormLaws.{found, absent, not_begun}
use Rattle.cl_audit_steps.proofs.LeafLaws.{no_charge}
use Rattle.cl_audit_steps.proofs.SequenceLaws.{filter_by}
use Rattle.cl_audit_steps.proofs.sequences.filter_start.Goals as goal

pub returns-in_default : goal.returns-in_default
returns-in_default c S take enter s = not_begun _ _ take enter S s (filter_by c.args.items.now take enter S s ∙ absent _ _ s c.in_default.ensures) c.wrong.ensures

pub returns-in-Some-one : goal.returns-in-Some-one
returns-in-Some-one c S take enter s = no_charge _ _ (filter_by c.args.items.now take enter S s ∙ found _ _ _ s c.in-Some.ensures ∙ found _ _ _ s c.in-Some-one.ensures)

pub returns-in-None : goal.returns-in-None
returns-in-None c S take enter s = not_begun _ _ take enter S s (filter_by c.args.items.now take enter S s ∙ found _ _ _ s c.in-Some.ensures ∙ absent _ _ s c.in-None.ensures) c.wrong-in-None.ensures
