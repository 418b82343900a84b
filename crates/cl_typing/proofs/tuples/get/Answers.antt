use Rattle.std.proofs.Common.{sym, ap, subst, ◌∙◌}
use Rattle.cl_types.specs.TypeView.{plain_of}
use Rattle.cl_types.specs.Sized.{IsSized}
use Rattle.cl_types.specs.SizedParts.{tuple_parts, optional_part}
use Rattle.cl_typing.proofs.tuples.get.Goals as goal

pub field-requires : goal.field-requires
field-requires c = rw c.deref.ensures.value (tuple_parts _ (subst IsSized (sym (ap plain_of (sym c.in-Tuple.is) ∙ c.behind-t.view_is)) c.ty.ensures.sized))

pub optional_field-requires : goal.optional_field-requires
optional_field-requires c =
    let part = optional_part c.in-Optional.part.value (subst IsSized (sym (ap plain_of (sym c.in-Optional.is) ∙ c.behind-t.view_is)) c.ty.ensures.sized) in
    let is = ap plain_of (sym c.in-Tuple-kind.is) ∙ c.behind-part.view_is ∙ c.deref-in-Optional.ensures in
    rw c.deref-in-Tuple-kind.ensures.value (tuple_parts _ (subst IsSized (sym is) part))
