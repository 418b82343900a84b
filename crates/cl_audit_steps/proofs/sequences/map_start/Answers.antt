use Rattle.std.proofs.Common.{◌∙◌}
use Rattle.cl_audit_steps.proofs.FormLaws.{found, absent, not_begun}
use Rattle.cl_audit_steps.proofs.LeafLaws.{no_charge}
use Rattle.cl_audit_steps.proofs.SequenceLaws.{map_by}
use Rattle.cl_audit_steps.proofs.sequences.map_start.Goals as goal

pub returns-in-Some : goal.returns-in-Some
returns-in-Some c S take enter s = no_charge _ _ (map_by c.args.items.now take enter S s ∙ found _ _ _ s c.in-Some.ensures)

pub returns-in-None : goal.returns-in-None
returns-in-None c S take enter s = not_begun _ _ take enter S s (map_by c.args.items.now take enter S s ∙ absent _ _ s c.in-None.ensures) c.wrong.ensures
