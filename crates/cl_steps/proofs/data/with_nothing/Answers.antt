use Rattle.std.proofs.Common.{refl, ap, ◌∙◌}
use Rattle.cl_meaning.specs.Limits.{limited}
use Rattle.cl_meaning.proofs.LimitLaws.{limited-stop}
use Rattle.cl_frames.proofs.Laws
use Rattle.cl_steps.proofs.data.with_nothing.Goals as goal

pub returns-in_default : goal.returns-in_default
returns-in_default c =
    record { meant = ap (limited _ _) (Laws.not_nothing _ _ _ _ c.in_default.not-VarGet c.in_default.not-FtSupply) ∙ limited-stop _ _ _ _; below = refl }
