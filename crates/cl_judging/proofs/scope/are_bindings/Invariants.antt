use Rattle.std.proofs.Common.{◌≡◌, drop}
use Rattle.std.specs.Prelude.{is_some}
use Rattle.cl_forms.specs.Shapes.{bindings_of}
use Rattle.cl_judging.proofs.scope.are_bindings.Given as goal

abbrev pub invariant-loop-item : goal.invariant-loop-item
invariant-loop-item l = is_some (bindings_of (drop l.item-index l.items)) ≡ is_some (bindings_of l.items)
