use Rattle.std.proofs.Common.{◌≡◌, take, drop, filter_map, true}
use Rattle.std.specs.Prelude.{is_some}
use Rattle.cl_forms.specs.Shapes.{binding_of, bindings_of}
use Rattle.cl_rules.specs.DataShapes.{keys_of}
use Rattle.cl_judging.proofs.tuples.bound_keys.Given as goal

abbrev pub invariant-loop-item : goal.invariant-loop-item
invariant-loop-item l = record {
  so_far : l.keys.items ≡ keys_of (filter_map binding_of (take l.item-index l.items));
  sound : is_some (bindings_of (drop l.item-index l.items)) ≡ true;
}
