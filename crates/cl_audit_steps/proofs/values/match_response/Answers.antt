use Rattle.std.proofs.Common.{sym, ◌∙◌}
use Rattle.cl_audit_steps.proofs.ValueLaws.{ends_as, response_ok, response_err, response_wrong}
use Rattle.cl_audit_steps.proofs.values.match_response.Goals as goal

pub returns-in-Good : goal.returns-in-Good
returns-in-Good c S take enter s = response_ok take S _ _ _ _ _ _ s (sym c.in-Good.is ∙ c.response_way_of.ensures) c.into_content.ensures ∙ c.with.ensures S take enter s

pub returns-in-Bad : goal.returns-in-Bad
returns-in-Bad c S take enter s = response_err take S _ _ _ _ _ _ s (sym c.in-Bad.is ∙ c.response_way_of.ensures) c.into_content-in-Bad.ensures ∙ c.with-in-Bad.ensures S take enter s

pub returns : goal.returns
returns c S take enter s = ends_as _ _ _ S take enter s (response_wrong take S _ _ _ _ _ s (sym c.in-Neither.is ∙ c.response_way_of.ensures)) c.uncharged_end.ensures
