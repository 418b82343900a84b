use Rattle.std.proofs.Common.{◌∙◌}
use Rattle.cl_audit_steps.proofs.FormLaws.{as_contract_by, found, absent, begun, not_begun}
use Rattle.cl_audit_steps.proofs.control.as_contract_start.Goals as goal

pub returns-in_default : goal.returns-in_default
returns-in_default c S take enter s = not_begun _ _ take enter S s (as_contract_by c.args.items.now take S s ∙ absent _ _ s c.in_default.ensures) c.wrong.ensures

pub returns : goal.returns
returns c S take enter s = begun _ _ _ _ (as_contract_by c.args.items.now take S s ∙ found _ _ _ s c.in-Some.ensures) c.in_ok-control.ensures
