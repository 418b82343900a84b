use Rattle.std.proofs.Common.{◌≡◌, map, take, drop, true}
use Rattle.std.specs.Prelude.{is_some}
use Rattle.cl_forms.specs.Shapes.{bindings_of}
use Rattle.cl_judging.specs.LetWalk.{exprs_of}
use Rattle.cl_judging.proofs.tuples.bound_exprs.Given as goal

abbrev pub invariant-loop-item : goal.invariant-loop-item
invariant-loop-item l = record {
  so_far : map (λ e. e.now) l.exprs.items ≡ exprs_of (take l.item-index l.items);
  sound : is_some (bindings_of (drop l.item-index l.items)) ≡ true;
}
