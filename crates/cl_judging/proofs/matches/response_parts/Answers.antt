use Rattle.std.proofs.Common.{sym, ap, ◌∙◌, subst}
use Rattle.cl_types.specs.TypeView.{plain_of}
use Rattle.cl_types.specs.Sized.{IsSized}
use Rattle.cl_types.specs.SizedParts.{ok_part}
use Rattle.cl_judging.proofs.matches.response_parts.Goals as goal

pub inner-requires : goal.inner-requires
inner-requires c = rw c.deref.ensures (ok_part c.in-Response.good.value _ (subst IsSized (sym (ap plain_of (sym c.in-Response.is) ∙ c.behind-ty.view_is)) c.ty.ensures.sized))
