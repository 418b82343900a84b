use Rattle.std.proofs.Common.{sym, ◌∙◌}
use Rattle.cl_audit_steps.proofs.ValueLaws.{ends_as, optional_some, optional_none, optional_wrong}
use Rattle.cl_audit_steps.proofs.values.match_optional.Goals as goal

pub returns-in-Good : goal.returns-in-Good
returns-in-Good c S take enter s = optional_some take S _ _ _ _ _ s (sym c.in-Good.is ∙ c.optional_way_of.ensures) c.into_content.ensures ∙ c.with.ensures S take enter s

pub returns-in-Bad : goal.returns-in-Bad
returns-in-Bad c S take enter s = ends_as _ _ _ S take enter s (optional_none take S _ _ _ _ s (sym c.in-Bad.is ∙ c.optional_way_of.ensures)) c.uncharged_end.ensures

pub returns : goal.returns
returns c S take enter s = ends_as _ _ _ S take enter s (optional_wrong take S _ _ _ _ s (sym c.in-Neither.is ∙ c.optional_way_of.ensures)) c.uncharged_end-in-Neither.ensures
