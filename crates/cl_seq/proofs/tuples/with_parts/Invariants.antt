use Rattle.std.proofs.Common.{◌≡◌, ◌+◌, length}
use Rattle.cl_seq.specs.Merging.{with_parts}
use Rattle.cl_seq.proofs.tuples.with_parts.Given as goal

abbrev pub invariant-loop : goal.invariant-loop
invariant-loop l = record {
  whole : with_parts l.sorted.entries l.parts.items ≡ with_parts l.fn.sorted.entries l.fn.parts.items;
  left : length l.parts.items + l.counter ≡ l.end;
}
