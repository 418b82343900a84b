use Rattle.std.proofs.Common.{◌≡◌, ◌++◌, drop, length}
use Rattle.std.specs.Prelude.{zip}
use Rattle.std.specs.Vec.Iter.{into_iter_items}
use Rattle.cl_steps.proofs.tuples.with_keys.Given as goal

abbrev pub invariant-loop-value : goal.invariant-loop-value
invariant-loop-value l = l.parts.items ++ zip (drop (length l.parts.items) l.keys) (into_iter_items l.value-iterator) ≡ zip l.keys l.fn.values.items
