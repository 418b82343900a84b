use Rattle.std.proofs.Common.{sym, ap, ◌∙◌, subst}
use Rattle.cl_types.specs.TypeView.{plain_of}
use Rattle.cl_types.specs.Sized.{IsSized}
use Rattle.cl_types.specs.SizedParts.{ok_part}
use Rattle.cl_typing.proofs.rows.part.Goals as goal

pub determined-requires-in-Response : goal.determined-requires-in-Response
determined-requires-in-Response c = rw c.deref-in-Response.ensures (ok_part c.in-Response.part.value _ (subst IsSized (sym (ap plain_of (sym c.in-Response.is) ∙ c.behind-t.view_is)) c.ty.ensures.sized))
