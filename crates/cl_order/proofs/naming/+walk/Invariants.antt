use Rattle.std.proofs.Common.{◌≡◌, ◌++◌, drop, flat_map}
use Rattle.cl_sexpr.specs.Tree.{tree_size, forest_size, pairs_size, forest, pairs}
use Rattle.cl_forms.specs.Names.{atoms_of, atoms_of_pairs}
use Rattle.cl_order.specs.Index.{under}
use Rattle.cl_order.specs.Naming.{place}
use Rattle.cl_order.proofs.naming.+walk.Given as goal

-- what is found, and what is left to find, is all
abbrev pub invariant-walk_items-loop-item : goal.invariant-walk_items-loop-item
invariant-walk_items-loop-item l = l.found.items ++ flat_map (under l.index) (atoms_of (place l.site) (forest (drop l.item-index l.items))) ≡ l.fn.found.items ++ flat_map (under l.index) (atoms_of (place l.fn.first) (forest l.items))

abbrev pub invariant-walk_pairs-loop-part : goal.invariant-walk_pairs-loop-part
invariant-walk_pairs-loop-part l = l.found.items ++ flat_map (under l.index) (atoms_of_pairs (pairs (drop l.part-index l.parts))) ≡ l.fn.found.items ++ flat_map (under l.index) (atoms_of_pairs (pairs l.parts))

abbrev pub decreases-walk : goal.decreases-walk
decreases-walk l = tree_size l.item.now

abbrev pub decreases-walk_list : goal.decreases-walk_list
decreases-walk_list l = forest_size (forest l.items.now)

abbrev pub decreases-walk_items : goal.decreases-walk_items
decreases-walk_items l = forest_size (forest l.items.now)

abbrev pub decreases-walk_pairs : goal.decreases-walk_pairs
decreases-walk_pairs l = pairs_size (pairs l.parts.now)
