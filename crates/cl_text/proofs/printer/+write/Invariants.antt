use Rattle.std.proofs.Common.{◌≡◌, ◌+◌, ◌*◌, ◌++◌, drop}
use Rattle.cl_values.specs.Tree.{weight, items_weight, entries_weight, items_of, entries_of}
use Rattle.cl_text.specs.Printed.{items_text, more_text}
use Rattle.cl_text.proofs.printer.+write.Given as goal

abbrev pub invariant-write_items-loop-value : goal.invariant-write_items-loop-value
invariant-write_items-loop-value l =
    l.initial.out.items ++ items_text (items_of l.values) ≡ l.out.items ++ items_text (items_of (drop l.value-index l.values))

abbrev pub invariant-write_more-loop-entry : goal.invariant-write_more-loop-entry
invariant-write_more-loop-entry l =
    l.initial.out.items ++ more_text (entries_of l.entries) ≡ l.out.items ++ more_text (entries_of (drop l.entry-index l.entries))

abbrev pub decreases-write_value : goal.decreases-write_value
decreases-write_value l = 4 * weight l.value.now

abbrev pub decreases-write_wrapped : goal.decreases-write_wrapped
decreases-write_wrapped l = 4 * weight l.value.now + 1

abbrev pub decreases-write_list : goal.decreases-write_list
decreases-write_list l = 4 * items_weight (items_of l.values.now) + 1

abbrev pub decreases-write_items : goal.decreases-write_items
decreases-write_items l = 4 * items_weight (items_of l.values.now)

abbrev pub decreases-write_tuple : goal.decreases-write_tuple
decreases-write_tuple l = 4 * entries_weight (entries_of l.entries.now) + 2

abbrev pub decreases-write_entries : goal.decreases-write_entries
decreases-write_entries l = 4 * entries_weight (entries_of l.entries.now) + 1

abbrev pub decreases-write_more : goal.decreases-write_more
decreases-write_more l = 4 * entries_weight (entries_of l.entries.now)

abbrev pub decreases-write_entry : goal.decreases-write_entry
decreases-write_entry l = 4 * weight l.entry.now.1 + 1
