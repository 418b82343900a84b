use Rattle.cl_audit_steps.proofs.FormLaws.{starts_eq, not_begun}
use Rattle.cl_audit_steps.proofs.LeafLaws.{value_known, value_unknown}
use Rattle.cl_audit_steps.proofs.leaves.constant_start.Goals as goal

pub returns-in-Some : goal.returns-in-Some
returns-in-Some c S = starts_eq S _ _ _ (λ take enter s. value_known _ _ s c.in-Some.ensures) (c.reads.ensures S)

pub returns-in-None : goal.returns-in-None
returns-in-None c S take enter s = not_begun _ _ take enter S s (value_unknown _ s c.in-None.ensures) c.wrong.ensures
