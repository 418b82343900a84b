use Rattle.std.proofs.Common.{sym, ap, ◌∙◌}
use Rattle.cl_types.specs.TypeView.{plain_of}
use Rattle.cl_types.specs.Sized.{everywhere, is_within}
use Rattle.cl_bound.proofs.PartSizes.{bad_within}
use Rattle.cl_bound.proofs.sizes.bad_size.Goals as goal

pub part_size-requires : goal.part_size-requires
part_size-requires c = ap (everywhere is_within) c.deref.ensures ∙ bad_within c.in-Response.field-0.value c.in-Response.bad.value c.ty.result.now (ap plain_of (sym c.in-Response.is) ∙ c.behind-ty.view_is) c.ty.ensures.sized
