use Rattle.std.proofs.Common.{sym, ap, arith}
use Rattle.cl_code.specs.Typed.{type_of}
use Rattle.cl_bound.proofs.PartSizes.{least_parts}
use Rattle.cl_bound.proofs.sizes.least_length.Goals as goal

pub returns : goal.returns
returns c = least_parts c.args.parts.now c.index-parts-0.result c.first.inside.ty c.length_of.result c.least_with.result (grind (arith, c.is_empty.ensures, c.if-is_empty.false, c.if-is_empty.ensures)) (sym c.index-parts-0.is) (ap type_of (sym c.first.view_is)) c.length_of.ensures c.least_with.ensures
