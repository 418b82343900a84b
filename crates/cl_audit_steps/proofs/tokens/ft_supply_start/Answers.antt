use Rattle.std.proofs.Common.{◌∙◌}
use Rattle.cl_audit_steps.proofs.FormLaws.{found, absent, not_begun}
use Rattle.cl_audit_steps.proofs.DataLaws.{starts_at, name_found, name_absent}
use Rattle.cl_audit_steps.proofs.TokenLaws.{supply_by}
use Rattle.cl_audit_steps.proofs.tokens.ft_supply_start.Goals as goal

pub returns-in_default : goal.returns-in_default
returns-in_default c S take enter s = not_begun _ _ take enter S s (supply_by c.args.items.now S s ∙ absent _ _ s c.in_default.ensures) c.wrong.ensures

pub returns-in-Some-atom : goal.returns-in-Some-atom
returns-in-Some-atom c S take enter s = starts_at _ _ _ take enter S s (supply_by c.args.items.now S s ∙ found _ _ _ s c.in-Some.ensures ∙ name_found _ _ _ s c.in-Some-atom.ensures) c.read.ensures

pub returns-in-None : goal.returns-in-None
returns-in-None c S take enter s = not_begun _ _ take enter S s (supply_by c.args.items.now S s ∙ found _ _ _ s c.in-Some.ensures ∙ name_absent _ _ s c.in-None.ensures) c.wrong-in-None.ensures
