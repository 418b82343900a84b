use Rattle.cl_audit_steps.proofs.ValueLaws.{bound_with}
use Rattle.cl_audit_steps.proofs.values.with.Goals as goal

pub returns : goal.returns
returns c S take enter s = bound_with take S c.args.name.now c.args.value c.args.item.now _ s c.of.ensures
