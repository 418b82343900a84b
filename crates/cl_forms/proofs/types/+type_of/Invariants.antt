use Rattle.std.proofs.Common.{◌≡◌, ◌+◌, ◌*◌, drop}
use Rattle.cl_types.specs.Types.{fields}
use Rattle.cl_sexpr.specs.Tree.{forest, pairs, tree_size, forest_size, pairs_size}
use Rattle.cl_forms.specs.WrittenTypes.{fields_of, fields_of_pairs}
use Rattle.cl_forms.specs.TypeRoom.{fields_within, and_more}
use Rattle.cl_forms.proofs.types.+type_of.Given as goal

abbrev pub decreases-type_of : goal.decreases-type_of
decreases-type_of l = 4 * tree_size l.item.now + 1

abbrev pub decreases-type_below : goal.decreases-type_below
decreases-type_below l = 4 * tree_size l.item.now

abbrev pub decreases-type_in : goal.decreases-type_in
decreases-type_in l = 4 * forest_size (forest l.items.now) + 3

abbrev pub decreases-type_by : goal.decreases-type_by
decreases-type_by l = 4 * forest_size (forest l.parts.now) + 3

abbrev pub decreases-list_of : goal.decreases-list_of
decreases-list_of l = 4 * forest_size (forest l.parts.now) + 2

abbrev pub decreases-optional_of : goal.decreases-optional_of
decreases-optional_of l = 4 * forest_size (forest l.parts.now) + 2

abbrev pub decreases-response_of : goal.decreases-response_of
decreases-response_of l = 4 * forest_size (forest l.parts.now) + 2

abbrev pub decreases-field_of : goal.decreases-field_of
decreases-field_of l = 4 * tree_size l.item.now + 1

abbrev pub decreases-field_in : goal.decreases-field_in
decreases-field_in l = 4 * tree_size l.pair.now.1 + 2

abbrev pub decreases-fields_of : goal.decreases-fields_of
decreases-fields_of l = 4 * forest_size (forest l.parts.now) + 2

abbrev pub decreases-fields_of_pairs : goal.decreases-fields_of_pairs
decreases-fields_of_pairs l = 4 * pairs_size (pairs l.parts.now) + 2

abbrev pub invariant-fields_of-loop-part : goal.invariant-fields_of-loop-part
invariant-fields_of-loop-part l = and_more (fields l.list.items) (fields_within l.room (fields_of (forest (drop l.part-index l.parts)))) ≡ fields_within l.room (fields_of (forest l.parts))

abbrev pub invariant-fields_of_pairs-loop-part : goal.invariant-fields_of_pairs-loop-part
invariant-fields_of_pairs-loop-part l = and_more (fields l.list.items) (fields_within l.room (fields_of_pairs (pairs (drop l.part-index l.parts)))) ≡ fields_within l.room (fields_of_pairs (pairs l.parts))
