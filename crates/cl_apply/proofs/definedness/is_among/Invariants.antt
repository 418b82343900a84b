use Rattle.std.proofs.Common.{◌≡◌, drop}
use Rattle.cl_values.specs.Tree.{entries_of}
use Rattle.cl_values.specs.Tuples.{is_among}
use Rattle.cl_apply.proofs.definedness.is_among.Given as goal

abbrev pub invariant-loop-entry : goal.invariant-loop-entry
invariant-loop-entry l = is_among l.key (entries_of (drop l.entry-index l.entries)) ≡ is_among l.key (entries_of l.entries)
