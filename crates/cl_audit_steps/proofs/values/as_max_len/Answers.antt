use Rattle.std.proofs.Common.{refl, sym, ◌∙◌}
use Rattle.cl_audit_steps.proofs.ValueLaws.{charged_as}
use Rattle.cl_audit_steps.proofs.ValueLaws.{within_is, not_within}
use Rattle.cl_audit_steps.proofs.values.as_max_len.Goals as goal

pub returns-in-Some : goal.returns-in-Some
returns-in-Some c S take enter s = charged_as _ _ _ _ _ _ _ S take enter s refl c.of-charge.ensures (within_is _ _ c.args.value _ s c.try_len.ensures (sym c.in-Some.is) ∙ c.in_ok-some_within-in-Some.ensures S take enter s) c.charged_end.ensures

pub returns : goal.returns
returns c S take enter s = charged_as _ _ _ _ _ _ _ S take enter s refl c.of-charge.ensures (not_within _ c.args.value _ s c.try_len.ensures (sym c.in-None.is)) c.charged_end-in-None.ensures
