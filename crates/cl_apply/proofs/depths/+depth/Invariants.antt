use Rattle.std.proofs.Common.{◌≡◌, ◌+◌, ◌*◌, drop, nat_le}
use Rattle.cl_values.specs.Tree.{items_of, entries_of, items_depth, entries_depth}
use Rattle.cl_apply.proofs.depths.+depth.Given as goal

abbrev pub invariant-are_within_depth-loop-value : goal.invariant-are_within_depth-loop-value
invariant-are_within_depth-loop-value l = nat_le (items_depth (items_of l.values)) l.most ≡ nat_le (items_depth (items_of (drop l.value-index l.values))) l.most

abbrev pub invariant-entries_are_within_depth-loop-entry : goal.invariant-entries_are_within_depth-loop-entry
invariant-entries_are_within_depth-loop-entry l = nat_le (entries_depth (entries_of l.entries)) l.most ≡ nat_le (entries_depth (entries_of (drop l.entry-index l.entries))) l.most

abbrev pub decreases-is_within_depth : goal.decreases-is_within_depth
decreases-is_within_depth l = 2 * l.most

abbrev pub decreases-are_within_depth : goal.decreases-are_within_depth
decreases-are_within_depth l = 2 * l.most + 1

abbrev pub decreases-entries_are_within_depth : goal.decreases-entries_are_within_depth
decreases-entries_are_within_depth l = 2 * l.most + 1
