use Rattle.std.proofs.Common.{◌∙◌}
use Rattle.cl_frames.proofs.Laws
use Rattle.cl_frames.proofs.HomeLaws
use Rattle.cl_calls.proofs.across.same.Goals as goal

pub returns : goal.returns
returns c =
    c.eq.ensures ∙ HomeLaws.is_same c.one_spelling.ensures.own _ _ c.is_valid_principal.ensures c.is_valid_principal-2.ensures
