use Rattle.std.proofs.Common.{sym, ◌∙◌}
use Rattle.cl_audit_steps.proofs.FormLaws.{found, absent, not_begun}
use Rattle.cl_audit_steps.proofs.LeafLaws.{no_charge}
use Rattle.cl_audit_steps.proofs.SequenceLaws.{max_len_by, uint_found, uint_absent}
use Rattle.cl_audit_steps.proofs.tuples.as_max_len_start.Goals as goal

pub returns-in_default : goal.returns-in_default
returns-in_default c S take enter s = not_begun _ _ take enter S s (max_len_by c.args.items.now take S s ∙ absent _ _ s c.in_default.ensures) c.wrong.ensures

pub returns-in-Some-uint : goal.returns-in-Some-uint
returns-in-Some-uint c S take enter s = no_charge _ _ (max_len_by c.args.items.now take S s ∙ found _ _ _ s c.in-Some.ensures ∙ uint_found _ _ _ s (sym c.in-Some-uint.is ∙ c.uint.ensures))

pub returns-in-None : goal.returns-in-None
returns-in-None c S take enter s = not_begun _ _ take enter S s (max_len_by c.args.items.now take S s ∙ found _ _ _ s c.in-Some.ensures ∙ uint_absent _ _ s (sym c.in-None.is ∙ c.uint.ensures)) c.wrong-in-None.ensures
