use Rattle.std.proofs.Common.{sym, ap, ◌∙◌, subst}
use Rattle.cl_types.specs.TypeView.{plain_of}
use Rattle.cl_types.specs.Sized.{IsSized}
use Rattle.cl_typing.proofs.BranchRows.{err_alone_sized}
use Rattle.cl_typing.proofs.branches.tried.Goals as goal

pub err_alone-requires : goal.err_alone-requires
err_alone-requires c = rw c.deref.ensures (err_alone_sized _ c.in-Response.bad.value (subst IsSized (sym (ap plain_of (sym c.in-Response.is) ∙ c.behind-t.view_is)) c.ty.ensures.sized))
