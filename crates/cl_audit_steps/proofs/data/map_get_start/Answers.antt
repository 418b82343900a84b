use Rattle.std.proofs.Common.{◌∙◌}
use Rattle.cl_audit_steps.proofs.FormLaws.{found, absent, not_begun}
use Rattle.cl_audit_steps.proofs.DataLaws.{starts_at}
use Rattle.cl_audit_steps.proofs.DataLaws.{map_get_by}
use Rattle.cl_audit_steps.proofs.data.map_get_start.Goals as goal

pub returns-in-Some : goal.returns-in-Some
returns-in-Some c S take enter s = starts_at _ _ _ take enter S s (map_get_by c.args.items.now take S s ∙ found _ _ _ s c.in-Some.ensures) c.act.ensures

pub returns-in-None : goal.returns-in-None
returns-in-None c S take enter s = not_begun _ _ take enter S s (map_get_by c.args.items.now take S s ∙ absent _ _ s c.in-None.ensures) c.wrong.ensures
