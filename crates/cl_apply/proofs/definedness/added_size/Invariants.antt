use Rattle.std.proofs.Common.{◌≡◌, ◌≤◌, ◌+◌, drop}
use Rattle.cl_values.specs.Tree.{entries_of}
use Rattle.cl_values.specs.Wire.{entries_size}
use Rattle.cl_apply.specs.Added.{added_size}
use Rattle.cl_apply.proofs.definedness.added_size.Given as goal

abbrev pub invariant-loop-entry : goal.invariant-loop-entry
invariant-loop-entry l = record {
  counted : l.size + added_size (entries_of (drop l.entry-index l.entries)) (entries_of l.others) ≡ added_size (entries_of l.entries) (entries_of l.others);
  small : l.size + entries_size (entries_of (drop l.entry-index l.entries)) ≤ 1048576;
}
