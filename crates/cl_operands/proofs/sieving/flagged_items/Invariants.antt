use Rattle.std.proofs.Common.{◌≡◌, ◌+◌, ◌++◌, drop, length}
use Rattle.std.specs.Vec.Iter.{into_iter_items}
use Rattle.cl_operands.specs.Sieved.{chosen}
use Rattle.cl_operands.proofs.sieving.flagged_items.Given as goal

abbrev pub invariant-loop-item : goal.invariant-loop-item
invariant-loop-item g l = record {
  so_far : l.kept.items ++ chosen (into_iter_items l.item-iterator) (drop l.place l.flags) ≡ chosen l.fn.items.items l.flags;
  at : l.place + length (into_iter_items l.item-iterator) ≡ length l.fn.items.items;
}
