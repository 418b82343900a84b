use Rattle.std.proofs.Common.{◌≡◌, ◌≤◌, ◌++◌}
use Rattle.std.specs.Vec.Iter.{into_iter_items}
use Rattle.cl_values.specs.Tree.{TupleV, entries_of, entries_depth}
use Rattle.cl_values.specs.Wire.{size_of}
use Rattle.cl_seq.proofs.Rows.{AreFine}
use Rattle.cl_seq.proofs.tuples.tuple_of_rows.Given as goal

abbrev pub invariant-loop-key : goal.invariant-loop-key
invariant-loop-key l = record {
  whole : l.entries.items ++ into_iter_items l.key-iterator ≡ l.fn.rows.items;
  fine : AreFine (entries_of l.entries.items);
  counted : l.size ≡ size_of (TupleV (entries_of l.entries.items));
  small : l.size ≤ 2097281;
  measured : l.depth ≡ entries_depth (entries_of l.entries.items);
  shallow : l.depth ≤ 32;
}
