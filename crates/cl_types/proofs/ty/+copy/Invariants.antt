use Rattle.std.proofs.Common.{◌≡◌, take}
use Rattle.cl_types.specs.Types.{weight_of, weights_of, fields}
use Rattle.cl_types.proofs.ty.+copy.Given as goal

abbrev pub invariant-copy_fields-loop-field : goal.invariant-copy_fields-loop-field
invariant-copy_fields-loop-field l = l.copies.items ≡ take l.field-index l.fields

abbrev pub decreases-Ty::copy : goal.decreases-Ty::copy
decreases-Ty::copy l = weight_of l.self.now

abbrev pub decreases-copy_fields : goal.decreases-copy_fields
decreases-copy_fields l = weights_of (fields l.fields.now)
