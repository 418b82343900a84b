use Rattle.std.proofs.Common.{◌+◌, ◌*◌}
use Rattle.cl_types.specs.Types.{fields, weight_of, weights_of}
use Rattle.cl_types.proofs.LatticeAlong.{Reaches}
use Rattle.cl_types.proofs.supertype.+join.Given as goal

abbrev pub invariant-join_rows-loop-i : goal.invariant-join_rows-loop-i
invariant-join_rows-loop-i l = Reaches l.a l.b l.i l.row.items

abbrev pub decreases-join : goal.decreases-join
decreases-join l = 2 * weight_of l.a.now

abbrev pub decreases-join_rows : goal.decreases-join_rows
decreases-join_rows l = 2 * weights_of (fields l.a.now)

abbrev pub decreases-join_field : goal.decreases-join_field
decreases-join_field l = 2 * weight_of l.a.now.1 + 1
