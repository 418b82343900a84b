use Rattle.std.proofs.Common.{refl, ap, ◌∙◌}
use Rattle.cl_meaning.specs.Limits.{limited}
use Rattle.cl_meaning.proofs.LimitLaws.{limited-stop}
use Rattle.cl_frames.proofs.Laws
use Rattle.cl_steps.proofs.data.with_one.Goals as goal

pub returns-in_default : goal.returns-in_default
returns-in_default c =
    record { meant = λ fits. ap (limited _ _) (Laws.not_one _ _ _ _ _ c.in_default.not-Get c.in_default.not-VarSet c.in_default.not-MapGet c.in_default.not-MapDelete c.in_default.not-FtBalance c.in_default.not-NftOwner) ∙ limited-stop _ _ _ _; below = refl }
