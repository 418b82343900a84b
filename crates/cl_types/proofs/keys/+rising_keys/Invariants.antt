use Rattle.std.proofs.Common.{◌≡◌, drop}
use Rattle.cl_types.specs.Types.{weight_of, weights_of, fields}
use Rattle.cl_types.specs.Sized.{everywhere_in, keys_rise}
use Rattle.cl_types.proofs.keys.+rising_keys.Given as goal

abbrev pub invariant-parts_have_rising_keys-loop-field : goal.invariant-parts_have_rising_keys-loop-field
invariant-parts_have_rising_keys-loop-field l =
    everywhere_in keys_rise (fields l.row) ≡ everywhere_in keys_rise (fields (drop l.field-index l.row))

abbrev pub decreases-has_rising_keys : goal.decreases-has_rising_keys
decreases-has_rising_keys l = weight_of l.ty.now

abbrev pub decreases-parts_have_rising_keys : goal.decreases-parts_have_rising_keys
decreases-parts_have_rising_keys l = weights_of (fields l.row.now)
