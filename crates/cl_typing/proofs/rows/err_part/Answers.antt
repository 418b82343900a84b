use Rattle.std.proofs.Common.{sym, ap, ◌∙◌, subst}
use Rattle.cl_types.specs.TypeView.{plain_of}
use Rattle.cl_types.specs.Sized.{IsSized}
use Rattle.cl_types.specs.SizedParts.{err_part}
use Rattle.cl_typing.proofs.rows.err_part.Goals as goal

pub determined-requires : goal.determined-requires
determined-requires c = rw c.deref.ensures (err_part _ c.in-Response.part.value (subst IsSized (sym (ap plain_of (sym c.in-Response.is) ∙ c.behind-t.view_is)) c.ty.ensures.sized))
