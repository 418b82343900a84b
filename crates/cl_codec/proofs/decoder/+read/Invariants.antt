use Rattle.std.proofs.Common.{◌≡◌, ◌+◌, ◌*◌}
use Rattle.std.specs.Prelude.{None}
use Rattle.cl_values.specs.Reading.{read_value, read_items, read_entries}
use Rattle.cl_codec.proofs.RowsRead.{with_items, with_entries}
use Rattle.cl_codec.proofs.decoder.+read.Given as goal

abbrev pub decreases-read_value : goal.decreases-read_value
decreases-read_value l = 5 * l.levels

abbrev pub decreases-read_some : goal.decreases-read_some
decreases-read_some l = 5 * l.levels + 1

abbrev pub decreases-read_response : goal.decreases-read_response
decreases-read_response l = 5 * l.levels + 1

abbrev pub decreases-read_entry : goal.decreases-read_entry
decreases-read_entry l = 5 * l.levels + 1

abbrev pub decreases-read_items : goal.decreases-read_items
decreases-read_items l = 5 * l.levels + 2

abbrev pub decreases-read_entries : goal.decreases-read_entries
decreases-read_entries l = 5 * l.levels + 2

abbrev pub decreases-read_list : goal.decreases-read_list
decreases-read_list l = 5 * l.levels + 3

abbrev pub decreases-read_tuple : goal.decreases-read_tuple
decreases-read_tuple l = 5 * l.levels + 3

abbrev pub decreases-read_kind : goal.decreases-read_kind
decreases-read_kind l = 5 * l.levels + 4

abbrev pub invariant-read_items-loop-left : goal.invariant-read_items-loop-left
invariant-read_items-loop-left l =
    read_items (read_value l.levels l.total) l.count l.bytes ≡ with_items l.values.items (read_items (read_value l.levels l.total) l.left l.rest)

abbrev pub decreases-read_items-loop-left : goal.decreases-read_items-loop-left
decreases-read_items-loop-left l = l.left

abbrev pub invariant-read_entries-loop-left : goal.invariant-read_entries-loop-left
invariant-read_entries-loop-left l =
    read_entries (read_value l.levels l.total) l.total None l.count l.bytes ≡ with_entries l.entries.items (read_entries (read_value l.levels l.total) l.total l.last l.left l.rest)

abbrev pub decreases-read_entries-loop-left : goal.decreases-read_entries-loop-left
decreases-read_entries-loop-left l = l.left
