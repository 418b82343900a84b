use Rattle.std.proofs.Common.{◌≡◌, ◌+◌, drop}
use Rattle.cl_values.specs.Tree.{items_of}
use Rattle.cl_values.specs.Wire.{items_size}
use Rattle.cl_apply.proofs.sequence_definedness.entries_size.Given as goal

abbrev pub invariant-loop-value : goal.invariant-loop-value
invariant-loop-value l = l.size + items_size (items_of (drop l.value-index l.values)) ≡ items_size (items_of l.values)
