use Rattle.cl_audit_steps.proofs.FormLaws.{not_begun}
use Rattle.cl_audit_steps.proofs.LeafLaws.{no_charge}
use Rattle.cl_audit_steps.proofs.SequenceLaws.{fold_by, no_fold_name, no_fold_items}
use Rattle.cl_audit_steps.proofs.sequences.fold_start.Goals as goal

pub returns-in_default : goal.returns-in_default
returns-in_default c S take enter s = not_begun _ _ take enter S s (no_fold_name c.args.items.now take enter S s c.in_default.ensures) c.wrong.ensures

pub returns-in-Some-two_items : goal.returns-in-Some-two_items
returns-in-Some-two_items c S take enter s = no_charge _ _ (fold_by c.args.items.now take enter S s _ _ _ _ c.in-Some.ensures c.in-Some-two_items.ensures)

pub returns-in-None : goal.returns-in-None
returns-in-None c S take enter s = not_begun _ _ take enter S s (no_fold_items c.args.items.now take enter S s _ _ _ c.in-Some.ensures c.in-None.ensures) c.wrong-in-None.ensures
