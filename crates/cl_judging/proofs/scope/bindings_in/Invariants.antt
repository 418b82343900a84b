use Rattle.std.proofs.Common.{◌≡◌, List, ◌++◌, length, drop, take, true}
use Rattle.std.specs.Prelude.{is_some}
use Rattle.cl_forms.specs.Shapes.{bindings_of}
use Rattle.cl_code.specs.declared.op.Binding.{Binding}
use Rattle.cl_code.specs.Expression.{bound_items}
use Rattle.cl_judging.specs.LetWalk.{exprs_of}
use Rattle.cl_judging.proofs.scope.bindings_in.Given as goal

abbrev pub invariant-loop-item : goal.invariant-loop-item
invariant-loop-item l = record {
  text : (rest : List Binding) → bound_items (l.bindings.items ++ rest) (exprs_of l.items) ≡ take l.item-index l.items ++ bound_items rest (exprs_of (drop l.item-index l.items));
  count : length l.bindings.items ≡ l.item-index;
  sound : is_some (bindings_of (drop l.item-index l.items)) ≡ true;
}
