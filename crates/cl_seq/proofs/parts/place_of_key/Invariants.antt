use Rattle.std.proofs.Common.{◌≡◌, drop}
use Rattle.cl_values.specs.Tree.{entries_of}
use Rattle.cl_values.specs.Tuples.{value_at}
use Rattle.cl_seq.proofs.parts.place_of_key.Given as goal

abbrev pub invariant-loop-i : goal.invariant-loop-i
invariant-loop-i l = value_at l.key (entries_of l.entries) ≡ value_at l.key (entries_of (drop l.i l.entries))
