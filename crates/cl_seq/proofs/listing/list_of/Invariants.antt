use Rattle.std.proofs.Common.{◌≡◌, ◌≤◌, ◌++◌}
use Rattle.std.specs.Vec.Iter.{into_iter_items}
use Rattle.cl_values.specs.Tree.{ListV, items_of, items_depth}
use Rattle.cl_values.specs.Wire.{size_of}
use Rattle.cl_seq.specs.Fine.{IsFine}
use Rattle.cl_seq.proofs.listing.list_of.Given as goal

abbrev pub invariant-loop-value : goal.invariant-loop-value
invariant-loop-value l = record {
  whole : l.entries.items ++ into_iter_items l.value-iterator ≡ l.fn.values.items;
  fine : IsFine (ListV (items_of l.entries.items));
  counted : l.size ≡ size_of (ListV (items_of l.entries.items));
  small : l.size ≤ 2097152;
  measured : l.depth ≡ items_depth (items_of l.entries.items);
  shallow : l.depth ≤ 32;
}
