use Rattle.std.proofs.Common.{◌≡◌, drop, max}
use Rattle.cl_types.specs.Types.{weight_of, weights_of, fields, depths_of}
use Rattle.cl_types.proofs.depth.+depth.Given as goal

abbrev pub invariant-depths_of-loop-field : goal.invariant-depths_of-loop-field
invariant-depths_of-loop-field l =
    depths_of (fields l.row) ≡ max (depths_of (fields (drop l.field-index l.row))) l.greatest

abbrev pub decreases-depth_of : goal.decreases-depth_of
decreases-depth_of l = weight_of l.ty.now

abbrev pub decreases-depths_of : goal.decreases-depths_of
decreases-depths_of l = weights_of (fields l.row.now)
