use Rattle.std.proofs.Common.{◌≡◌, ◌++◌}
use Rattle.std.specs.Vec.Iter.{into_iter_items}
use Rattle.cl_values.specs.Tree.{entries_of}
use Rattle.cl_values.specs.Valid.{AreEntries}
use Rattle.cl_seq.proofs.tuples.parts_of.Given as goal

abbrev pub invariant-loop-key : goal.invariant-loop-key
invariant-loop-key l = record {
  whole : l.parts.items ++ into_iter_items l.key-iterator ≡ l.fn.entries.items;
  valid : AreEntries (entries_of (into_iter_items l.key-iterator));
}
