use Rattle.std.proofs.Common.{◌≡◌, ◌+◌, ◌*◌, drop}
use Rattle.cl_sexpr.specs.Tree.{forest, pairs, tree_size, forest_size, pairs_size}
use Rattle.cl_text.specs.Literal.{by_key, made_of, literals, pair_entries, entries}
use Rattle.cl_text.proofs.Parts.{behind, sorted_onto}
use Rattle.cl_text.proofs.literal.+literal.Given as goal

abbrev pub invariant-literals-loop-item : goal.invariant-literals-loop-item
invariant-literals-loop-item l = literals (forest l.items) ≡ behind l.values.items (literals (forest (drop l.item-index l.items)))

abbrev pub invariant-pair_entries-loop-item : goal.invariant-pair_entries-loop-item
invariant-pair_entries-loop-item l =
    made_of by_key (pair_entries (forest l.items)) ≡ made_of (sorted_onto l.sorted.entries) (pair_entries (forest (drop l.item-index l.items)))

abbrev pub invariant-entries-loop-part : goal.invariant-entries-loop-part
invariant-entries-loop-part l =
    made_of by_key (entries (pairs l.parts)) ≡ made_of (sorted_onto l.sorted.entries) (entries (pairs (drop l.part-index l.parts)))

abbrev pub decreases-literal : goal.decreases-literal
decreases-literal l = 4 * tree_size l.item.now

abbrev pub decreases-list_literal : goal.decreases-list_literal
decreases-list_literal l = 4 * forest_size (forest l.items.now) + 3

abbrev pub decreases-some_literal : goal.decreases-some_literal
decreases-some_literal l = 4 * forest_size (forest l.parts.now) + 2

abbrev pub decreases-response_literal : goal.decreases-response_literal
decreases-response_literal l = 4 * forest_size (forest l.parts.now) + 2

abbrev pub decreases-sole : goal.decreases-sole
decreases-sole l = 4 * forest_size (forest l.parts.now) + 1

abbrev pub decreases-items_literal : goal.decreases-items_literal
decreases-items_literal l = 4 * forest_size (forest l.items.now) + 2

abbrev pub decreases-literals : goal.decreases-literals
decreases-literals l = 4 * forest_size (forest l.items.now) + 1

abbrev pub decreases-pairs_literal : goal.decreases-pairs_literal
decreases-pairs_literal l = 4 * forest_size (forest l.items.now) + 2

abbrev pub decreases-pair_entries : goal.decreases-pair_entries
decreases-pair_entries l = 4 * forest_size (forest l.items.now) + 1

abbrev pub decreases-pair_entry : goal.decreases-pair_entry
decreases-pair_entry l = 4 * tree_size l.item.now

abbrev pub decreases-entry_in : goal.decreases-entry_in
decreases-entry_in l = 4 * forest_size (forest l.items.now) + 2

abbrev pub decreases-tuple_literal : goal.decreases-tuple_literal
decreases-tuple_literal l = 4 * pairs_size (pairs l.parts.now) + 2

abbrev pub decreases-entries : goal.decreases-entries
decreases-entries l = 4 * pairs_size (pairs l.parts.now) + 1
