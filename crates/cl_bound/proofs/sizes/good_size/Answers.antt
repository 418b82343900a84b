use Rattle.std.proofs.Common.{sym, ap, ◌∙◌}
use Rattle.cl_types.specs.TypeView.{plain_of}
use Rattle.cl_types.specs.Sized.{everywhere, is_within}
use Rattle.cl_bound.proofs.PartSizes.{good_within}
use Rattle.cl_bound.proofs.sizes.good_size.Goals as goal

pub part_size-requires-in-Response : goal.part_size-requires-in-Response
part_size-requires-in-Response c = ap (everywhere is_within) c.deref-in-Response.ensures ∙ good_within c.in-Response.good.value c.in-Response.field-1.value c.ty.result.now (ap plain_of (sym c.in-Response.is) ∙ c.behind-ty.view_is) c.ty.ensures.sized
