use Rattle.cl_audit_steps.proofs.FormLaws.{begin_is, begun}
use Rattle.cl_audit_steps.proofs.control.begin_start.Goals as goal

pub returns : goal.returns
returns c S take enter s = begun _ _ _ _ (begin_is c.args.items.now take S s) c.in_ok-control.ensures
