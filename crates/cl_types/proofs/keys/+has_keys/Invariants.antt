use Rattle.std.proofs.Common.{◌≡◌, drop}
use Rattle.cl_types.specs.Types.{weight_of, weights_of, fields}
use Rattle.cl_types.specs.Sized.{everywhere_in, has_key}
use Rattle.cl_types.proofs.keys.+has_keys.Given as goal

abbrev pub invariant-parts_have_keys-loop-field : goal.invariant-parts_have_keys-loop-field
invariant-parts_have_keys-loop-field l =
    everywhere_in has_key (fields l.row) ≡ everywhere_in has_key (fields (drop l.field-index l.row))

abbrev pub decreases-has_keys : goal.decreases-has_keys
decreases-has_keys l = weight_of l.ty.now

abbrev pub decreases-parts_have_keys : goal.decreases-parts_have_keys
decreases-parts_have_keys l = weights_of (fields l.row.now)
