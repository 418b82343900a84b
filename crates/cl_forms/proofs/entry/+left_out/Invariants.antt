use Rattle.std.proofs.Common.{◌≡◌, fold, drop}
use Rattle.cl_sexpr.specs.Tree.{forest, pairs, tree_size, forest_size, pairs_size}
use Rattle.cl_forms.specs.FormBreaks.{left_out_of, left_out_of_pairs}
use Rattle.cl_forms.specs.Looks.{earliest}
use Rattle.cl_forms.proofs.entry.+left_out.Given as goal

abbrev pub decreases-left_out_in : goal.decreases-left_out_in
decreases-left_out_in l = tree_size l.item.now

abbrev pub decreases-left_out_of : goal.decreases-left_out_of
decreases-left_out_of l = forest_size (forest l.items.now)

abbrev pub decreases-left_out_of_pairs : goal.decreases-left_out_of_pairs
decreases-left_out_of_pairs l = pairs_size (pairs l.parts.now)

abbrev pub invariant-left_out_of-loop-item : goal.invariant-left_out_of-loop-item
invariant-left_out_of-loop-item l = fold earliest l.found (left_out_of (forest (drop l.item-index l.items))) ≡ fold earliest l.fn.best (left_out_of (forest l.items))

abbrev pub invariant-left_out_of_pairs-loop-part : goal.invariant-left_out_of_pairs-loop-part
invariant-left_out_of_pairs-loop-part l = fold earliest l.found (left_out_of_pairs (pairs (drop l.part-index l.parts))) ≡ fold earliest l.fn.best (left_out_of_pairs (pairs l.parts))
