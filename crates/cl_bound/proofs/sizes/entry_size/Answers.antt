use Rattle.std.proofs.Common.{sym, ap, ◌∙◌}
use Rattle.cl_types.specs.TypeView.{plain_of}
use Rattle.cl_types.specs.Sized.{everywhere, is_within}
use Rattle.cl_bound.proofs.PartSizes.{entry_within}
use Rattle.cl_bound.proofs.sizes.entry_size.Goals as goal

pub part_size-requires : goal.part_size-requires
part_size-requires c = ap (everywhere is_within) c.deref.ensures ∙ entry_within c.in-List.field-0 c.in-List.entry.value c.ty.result.now (ap plain_of (sym c.in-List.is) ∙ c.behind-ty.view_is) c.ty.ensures.sized
