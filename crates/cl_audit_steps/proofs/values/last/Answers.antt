use Rattle.cl_audit_steps.proofs.ValueLaws.{last_is}
use Rattle.cl_audit_steps.proofs.values.last.Goals as goal

pub returns-in-Some : goal.returns-in-Some
returns-in-Some c S take enter s = last_is _ _ _ s c.in-Some.ensures.items
