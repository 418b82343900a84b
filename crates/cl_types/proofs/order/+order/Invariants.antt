use Rattle.std.proofs.Common.{◌≡◌, ◌+◌, ◌*◌, take, drop, map, ◌++◌}
use Rattle.cl_types.specs.Types.{weight_of, weights_of, fields}
use Rattle.cl_types.proofs.Sorting.{part_sorted}
use Rattle.cl_types.proofs.order.+order.Given as goal

abbrev pub invariant-sort_parts-loop-field : goal.invariant-sort_parts-loop-field
invariant-sort_parts-loop-field l =
    l.row ≡ map part_sorted (take l.field-index l.fn.row) ++ drop l.field-index l.fn.row

abbrev pub decreases-sort : goal.decreases-sort
decreases-sort l = 2 * weight_of l.ty.now

abbrev pub decreases-sort_tuple : goal.decreases-sort_tuple
decreases-sort_tuple l = 2 * weights_of (fields l.row.now.items) + 1

abbrev pub decreases-sort_parts : goal.decreases-sort_parts
decreases-sort_parts l = 2 * weights_of (fields l.row.now)
