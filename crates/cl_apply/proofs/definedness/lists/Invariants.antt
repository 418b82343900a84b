use Rattle.std.proofs.Common.{◌≡◌, ◌≤◌, take}
use Rattle.cl_values.specs.Tree.{ListV, items_of, items_depth}
use Rattle.cl_values.specs.Wire.{size_of}
use Rattle.cl_apply.proofs.definedness.lists.Given as goal

abbrev pub invariant-loop-value : goal.invariant-loop-value
invariant-loop-value l = record {
  counted : l.size ≡ size_of (ListV (items_of (take l.value-index l.values)));
  small : l.size ≤ 2097152;
  measured : l.depth ≡ items_depth (items_of (take l.value-index l.values));
  shallow : l.depth ≤ 32;
}
