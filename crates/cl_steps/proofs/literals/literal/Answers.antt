use Rattle.std.proofs.Common.{sym, ap, ◌∙◌}
use Rattle.cl_meaning.specs.Limits.{limited}
use Rattle.cl_meaning.proofs.LimitLaws.{limited-stop}
use Rattle.cl_frames.proofs.Steps.{ends_so}
use Rattle.cl_frames.proofs.Laws
use Rattle.cl_steps.proofs.literals.literal.Goals as goal

pub returns-in-Ok : goal.returns-in-Ok
returns-in-Ok c s =
    ends_so _ _ _ _ _ (ap (limited _ _) (Laws.literal_is _ _ s (sym c.make.ensures ∙ c.in-Ok.is))) (c.stands.ensures s)

pub returns-in-Err : goal.returns-in-Err
returns-in-Err c s =
    ap (limited _ _) (Laws.literal_is _ _ s (sym c.make.ensures ∙ c.in-Err.is)) ∙ limited-stop _ _ _ _
