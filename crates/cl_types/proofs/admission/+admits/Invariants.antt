use Rattle.std.proofs.Common.{◌≡◌, ◌+◌, ◌*◌, drop}
use Rattle.cl_types.specs.Types.{fields, admits_fields, weight_of, weights_of}
use Rattle.cl_types.proofs.admission.+admits.Given as goal

abbrev pub invariant-row_admits-loop-i : goal.invariant-row_admits-loop-i
invariant-row_admits-loop-i l = admits_fields (fields l.a) (fields l.b) ≡ admits_fields (fields (drop l.i l.a)) (fields (drop l.i l.b))

abbrev pub decreases-tree_admits : goal.decreases-tree_admits
decreases-tree_admits l = 2 * weight_of l.a.now

abbrev pub decreases-row_admits : goal.decreases-row_admits
decreases-row_admits l = 2 * weights_of (fields l.a.now)

abbrev pub decreases-field_admits : goal.decreases-field_admits
decreases-field_admits l = 2 * weight_of l.a.now.1 + 1
