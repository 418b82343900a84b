use Rattle.cl_audit_steps.proofs.LeafLaws.{stands}
use Rattle.cl_audit_steps.proofs.leaves.value_start.Goals as goal

pub returns : goal.returns
returns c S take enter s = stands _ _ _ s c.of.ensures
