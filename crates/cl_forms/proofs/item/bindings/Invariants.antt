use Rattle.std.proofs.Common.{◌≡◌, ◌++◌, option_map}
use Rattle.std.specs.Vec.Iter.{into_iter_items}
use Rattle.cl_forms.specs.Shapes.{bindings_of}
use Rattle.cl_forms.specs.ItemView.{behind}
use Rattle.cl_forms.proofs.item.bindings.Given as goal

abbrev pub invariant-loop-item : goal.invariant-loop-item
invariant-loop-item l = option_map (λ more. l.list.items ++ more) (bindings_of (into_iter_items l.item-iterator)) ≡ bindings_of (behind l.fn.items.items)
