use Rattle.std.proofs.Common.{ap, ◌∙◌}
use Rattle.cl_meaning.specs.Limits.{limited}
use Rattle.cl_meaning.proofs.LimitLaws.{limited-stop}
use Rattle.cl_frames.proofs.Laws
use Rattle.cl_steps.proofs.data.with_all.Goals as goal

pub returns-in_default-clause-meant : goal.returns-in_default-clause-meant
returns-in_default-clause-meant c fits =
    ap (limited _ _) (Laws.not_all _ _ _ _ _ c.in_default.not-MapSet c.in_default.not-MapInsert c.in_default.not-MintFt c.in_default.not-BurnFt c.in_default.not-SendFt c.in_default.not-MintNft c.in_default.not-BurnNft c.in_default.not-SendNft) ∙ limited-stop _ _ _ _
