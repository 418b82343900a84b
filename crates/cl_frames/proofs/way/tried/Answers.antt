use Rattle.std.proofs.Common.{ap, ◌∙◌, sym, refl}
use Rattle.cl_meaning.specs.Limits.{limited}
use Rattle.cl_meaning.proofs.LimitLaws.{limited-stop}
use Rattle.cl_frames.proofs.Steps.{gives}
use Rattle.cl_frames.proofs.Ways.{tried_good, tried_bad, tried_neither}
use Rattle.cl_frames.proofs.way.tried.Goals as goal

pub returns-in-Good : goal.returns-in-Good
returns-in-Good c costs p s = ap (limited costs p) (tried_good _ s (sym c.in-Good.is ∙ c.way_of.ensures)) ∙ gives _ _ _ _ _ _ c.into_content.ensures refl

pub returns-in-Bad : goal.returns-in-Bad
returns-in-Bad c costs p s = ap (limited costs p) (tried_bad _ s (sym c.in-Bad.is ∙ c.way_of.ensures)) ∙ limited-stop _ _ _ _

pub returns-in-Neither : goal.returns-in-Neither
returns-in-Neither c costs p s = ap (limited costs p) (tried_neither _ s (sym c.in-Neither.is ∙ c.way_of.ensures)) ∙ limited-stop _ _ _ _
