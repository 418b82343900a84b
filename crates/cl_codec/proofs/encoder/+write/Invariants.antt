use Rattle.std.proofs.Common.{◌≡◌, ◌≤◌, ◌+◌, ◌*◌, ◌++◌, drop}
use Rattle.cl_values.specs.Tree.{weight, items_weight, entries_weight, items_of, entries_of}
use Rattle.cl_values.specs.Wire.{items_wire, entries_wire, items_size, entries_size}
use Rattle.cl_codec.proofs.encoder.+write.Given as goal

abbrev pub invariant-write_values-loop-value : goal.invariant-write_values-loop-value
invariant-write_values-loop-value l = record {
  written : l.initial.out.items ++ items_wire (items_of l.values) ≡ l.out.items ++ items_wire (items_of (drop l.value-index l.values));
  within : items_size (items_of (drop l.value-index l.values)) ≤ 1048576;
}

abbrev pub invariant-write_entries-loop-entry : goal.invariant-write_entries-loop-entry
invariant-write_entries-loop-entry l = record {
  written : l.initial.out.items ++ entries_wire (entries_of l.entries) ≡ l.out.items ++ entries_wire (entries_of (drop l.entry-index l.entries));
  within : entries_size (entries_of (drop l.entry-index l.entries)) ≤ 1048576;
}

abbrev pub decreases-write_value : goal.decreases-write_value
decreases-write_value l = 3 * weight l.value.now + 1

abbrev pub decreases-write_body : goal.decreases-write_body
decreases-write_body l = 3 * weight l.value.now

abbrev pub decreases-write_list : goal.decreases-write_list
decreases-write_list l = 3 * items_weight (items_of l.values.now) + 2

abbrev pub decreases-write_values : goal.decreases-write_values
decreases-write_values l = 3 * items_weight (items_of l.values.now) + 1

abbrev pub decreases-write_tuple : goal.decreases-write_tuple
decreases-write_tuple l = 3 * entries_weight (entries_of l.entries.now) + 2

abbrev pub decreases-write_entries : goal.decreases-write_entries
decreases-write_entries l = 3 * entries_weight (entries_of l.entries.now) + 1

abbrev pub decreases-write_entry : goal.decreases-write_entry
decreases-write_entry l = 3 * weight l.entry.now.1 + 2
