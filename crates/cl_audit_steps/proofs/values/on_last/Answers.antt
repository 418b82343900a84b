use Rattle.cl_audit_steps.proofs.ValueLaws.{ends_as}
use Rattle.cl_audit_steps.proofs.values.on_last.Goals as goal

pub returns : goal.returns
returns c S take enter s = ends_as _ _ _ S take enter s (c.last.ensures S take enter s) c.uncharged_end.ensures
