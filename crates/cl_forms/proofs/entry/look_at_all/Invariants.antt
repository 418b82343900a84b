use Rattle.std.proofs.Common.{◌≡◌, ◌++◌, map}
use Rattle.std.specs.Vec.Iter.{into_iter_items}
use Rattle.cl_forms.specs.Looks.{look_at, plain_entry}
use Rattle.cl_forms.proofs.entry.look_at_all.Given as goal

abbrev pub invariant-loop-item : goal.invariant-loop-item
invariant-loop-item l = map plain_entry l.entries.items ++ map look_at (into_iter_items l.item-iterator) ≡ map look_at l.fn.items.items
