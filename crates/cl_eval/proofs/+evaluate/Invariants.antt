use Rattle.std.proofs.Common.{◌≡◌, ℕ, map, drop, length, ◌+◌, ◌++◌, ◌*◌, ◌≤◌, List}
use Rattle.cl_sexpr.specs.Tree.{Tree}
use Rattle.cl_code.specs.Typed.{expression_of}
use Rattle.cl_code.specs.Expression.{bound_items}
use Rattle.cl_meaning.specs.Scope.{parts}
use Rattle.cl_meaning.specs.Control.{and_on, or_on, let_in}
use Rattle.cl_frames.specs.Watching.{watched, amount}
use Rattle.cl_meaning.specs.Meaning.{means, applied}
use Rattle.cl_frames.specs.Seen.{costs_of, scope, scope_of, Fits}
use Rattle.cl_frames.proofs.Parts.{onto}
use Rattle.cl_values.specs.Tree.{Tree as Val}
use Rattle.cl_meaning.specs.Sequences.{each, folded}
use Rattle.cl_frames.specs.Applying.{callee_seen}
use Rattle.cl_frames.specs.Rows.{rows_from, entries_from}
use Rattle.std.specs.Vec.{vec_capacity}
use Rattle.cl_eval.proofs.+evaluate.Given as goal

abbrev pub invariant-walk::evaluate_parts-loop-code : goal.invariant-walk::evaluate_parts-loop-code
invariant-walk::evaluate_parts-loop-code g l = record {
  so_far :
      Fits l.context →
      watched (costs_of l.context) l.initial.meter (g.W.Watch.seen l.initial.watch) (parts (means l.below) (scope l.context l.names) (map expression_of l.codes) l.initial.world.stack.top)
      ≡ onto l.values.items (watched (costs_of l.context) l.meter (g.W.Watch.seen l.watch) (parts (means l.below) (scope l.context l.names) (map expression_of (drop l.code-index l.codes)) l.world.stack.top));
  below : l.world.stack.below ≡ l.initial.world.stack.below;
  grew : amount (g.W.Watch.seen l.initial.watch) ≤ amount (g.W.Watch.seen l.watch);
  room : length l.codes ≤ vec_capacity l.values;
  count : length l.values.items ≡ l.code-index;
}

abbrev pub invariant-scopes::evaluate_bindings-loop-binding : goal.invariant-scopes::evaluate_bindings-loop-binding
invariant-scopes::evaluate_bindings-loop-binding g l = record {
  so_far :
      (body : List Tree) → Fits l.context →
      watched (costs_of l.context) l.initial.meter (g.W.Watch.seen l.initial.watch) (let_in (means l.below) body (scope l.context l.names) (bound_items l.bindings (map expression_of l.codes)) l.initial.world.stack.top)
      ≡ watched (costs_of l.context) l.meter (g.W.Watch.seen l.watch) (let_in (means l.below) body (scope_of l.context (l.names.values ++ l.own.items)) (bound_items (drop l.binding-index l.bindings) (map expression_of (drop l.binding-index l.codes))) l.world.stack.top);
  below : l.world.stack.below ≡ l.initial.world.stack.below;
  grew : amount (g.W.Watch.seen l.initial.watch) ≤ amount (g.W.Watch.seen l.watch);
  at : l.place ≡ l.binding-index;
}

abbrev pub invariant-control::and_parts-loop-code : goal.invariant-control::and_parts-loop-code
invariant-control::and_parts-loop-code g l = record {
  so_far :
      Fits l.context →
      watched (costs_of l.context) l.initial.meter (g.W.Watch.seen l.initial.watch) (and_on (means l.below) (scope l.context l.names) (map expression_of l.codes) l.initial.world.stack.top)
      ≡ watched (costs_of l.context) l.meter (g.W.Watch.seen l.watch) (and_on (means l.below) (scope l.context l.names) (map expression_of (drop l.code-index l.codes)) l.world.stack.top);
  below : l.world.stack.below ≡ l.initial.world.stack.below;
  grew : amount (g.W.Watch.seen l.initial.watch) ≤ amount (g.W.Watch.seen l.watch);
}

abbrev pub invariant-control::or_parts-loop-code : goal.invariant-control::or_parts-loop-code
invariant-control::or_parts-loop-code g l = record {
  so_far :
      Fits l.context →
      watched (costs_of l.context) l.initial.meter (g.W.Watch.seen l.initial.watch) (or_on (means l.below) (scope l.context l.names) (map expression_of l.codes) l.initial.world.stack.top)
      ≡ watched (costs_of l.context) l.meter (g.W.Watch.seen l.watch) (or_on (means l.below) (scope l.context l.names) (map expression_of (drop l.code-index l.codes)) l.world.stack.top);
  below : l.world.stack.below ≡ l.initial.world.stack.below;
  grew : amount (g.W.Watch.seen l.initial.watch) ≤ amount (g.W.Watch.seen l.watch);
}

abbrev pub decreases-walk::evaluate : goal.decreases-walk::evaluate
decreases-walk::evaluate g l = 9 * l.depth + 0

abbrev pub decreases-walk::evaluate_node : goal.decreases-walk::evaluate_node
decreases-walk::evaluate_node g l = 9 * l.below + 7

abbrev pub decreases-walk::evaluate_parts : goal.decreases-walk::evaluate_parts
decreases-walk::evaluate_parts g l = 9 * l.below + 1

abbrev pub decreases-walk::evaluate_native : goal.decreases-walk::evaluate_native
decreases-walk::evaluate_native g l = 9 * l.below + 5

abbrev pub decreases-walk::evaluate_truth : goal.decreases-walk::evaluate_truth
decreases-walk::evaluate_truth g l = 9 * l.below + 1

abbrev pub decreases-walk::evaluate_thrown : goal.decreases-walk::evaluate_thrown
decreases-walk::evaluate_thrown g l = 9 * l.below + 1

abbrev pub decreases-on_parts::evaluate_on_parts : goal.decreases-on_parts::evaluate_on_parts
decreases-on_parts::evaluate_on_parts g l = 9 * l.below + 6

abbrev pub decreases-on_names::evaluate_on_name : goal.decreases-on_names::evaluate_on_name
decreases-on_names::evaluate_on_name g l = 9 * l.below + 6

abbrev pub decreases-control::evaluate_if : goal.decreases-control::evaluate_if
decreases-control::evaluate_if g l = 9 * l.below + 5

abbrev pub decreases-control::evaluate_begin : goal.decreases-control::evaluate_begin
decreases-control::evaluate_begin g l = 9 * l.below + 5

abbrev pub decreases-control::evaluate_and : goal.decreases-control::evaluate_and
decreases-control::evaluate_and g l = 9 * l.below + 5

abbrev pub decreases-control::and_parts : goal.decreases-control::and_parts
decreases-control::and_parts g l = 9 * l.below + 3

abbrev pub decreases-control::evaluate_or : goal.decreases-control::evaluate_or
decreases-control::evaluate_or g l = 9 * l.below + 5

abbrev pub decreases-control::or_parts : goal.decreases-control::or_parts
decreases-control::or_parts g l = 9 * l.below + 3

abbrev pub decreases-control::evaluate_asserts : goal.decreases-control::evaluate_asserts
decreases-control::evaluate_asserts g l = 9 * l.below + 5

abbrev pub decreases-control::evaluate_unwrap : goal.decreases-control::evaluate_unwrap
decreases-control::evaluate_unwrap g l = 9 * l.below + 5

abbrev pub decreases-control::evaluate_unwrap_err : goal.decreases-control::evaluate_unwrap_err
decreases-control::evaluate_unwrap_err g l = 9 * l.below + 5

abbrev pub decreases-control::evaluate_try : goal.decreases-control::evaluate_try
decreases-control::evaluate_try g l = 9 * l.below + 5

abbrev pub decreases-control::evaluate_as_contract : goal.decreases-control::evaluate_as_contract
decreases-control::evaluate_as_contract g l = 9 * l.below + 5

abbrev pub decreases-control::evaluate_print : goal.decreases-control::evaluate_print
decreases-control::evaluate_print g l = 9 * l.below + 5

abbrev pub decreases-scopes::evaluate_match_optional : goal.decreases-scopes::evaluate_match_optional
decreases-scopes::evaluate_match_optional g l = 9 * l.below + 5

abbrev pub decreases-scopes::evaluate_match_response : goal.decreases-scopes::evaluate_match_response
decreases-scopes::evaluate_match_response g l = 9 * l.below + 5

abbrev pub decreases-scopes::evaluate_with : goal.decreases-scopes::evaluate_with
decreases-scopes::evaluate_with g l = 9 * l.below + 3

abbrev pub decreases-scopes::evaluate_in : goal.decreases-scopes::evaluate_in
decreases-scopes::evaluate_in g l = 9 * l.below + 1

abbrev pub decreases-scopes::evaluate_let : goal.decreases-scopes::evaluate_let
decreases-scopes::evaluate_let g l = 9 * l.below + 5

abbrev pub decreases-scopes::evaluate_bindings : goal.decreases-scopes::evaluate_bindings
decreases-scopes::evaluate_bindings g l = 9 * l.below + 3

abbrev pub decreases-calls::evaluate_call : goal.decreases-calls::evaluate_call
decreases-calls::evaluate_call g l = 9 * l.below + 5

abbrev pub decreases-calls::enter : goal.decreases-calls::enter
decreases-calls::enter g l = 9 * l.depth + 1

abbrev pub decreases-calls::evaluate_body : goal.decreases-calls::evaluate_body
decreases-calls::evaluate_body g l = 9 * l.below + 2

abbrev pub decreases-tuples::evaluate_as_max_len : goal.decreases-tuples::evaluate_as_max_len
decreases-tuples::evaluate_as_max_len g l = 9 * l.below + 5

abbrev pub decreases-across::evaluate_contract_call : goal.decreases-across::evaluate_contract_call
decreases-across::evaluate_contract_call g l = 9 * l.below + 5

abbrev pub decreases-across::enter_there : goal.decreases-across::enter_there
decreases-across::enter_there g l = 9 * l.below + 4

abbrev pub decreases-tuples::evaluate_tuple : goal.decreases-tuples::evaluate_tuple
decreases-tuples::evaluate_tuple g l = 9 * l.below + 5

abbrev pub decreases-tuples::evaluate_tuple_of : goal.decreases-tuples::evaluate_tuple_of
decreases-tuples::evaluate_tuple_of g l = 9 * l.below + 6

abbrev pub decreases-stx::evaluate_stx : goal.decreases-stx::evaluate_stx
decreases-stx::evaluate_stx g l = 9 * l.below + 5

abbrev pub decreases-stx::evaluate_send_stx : goal.decreases-stx::evaluate_send_stx
decreases-stx::evaluate_send_stx g l = 9 * l.below + 5

abbrev pub decreases-stx::evaluate_burn_stx : goal.decreases-stx::evaluate_burn_stx
decreases-stx::evaluate_burn_stx g l = 9 * l.below + 5

abbrev pub decreases-iterate::evaluate_iteration : goal.decreases-iterate::evaluate_iteration
decreases-iterate::evaluate_iteration g l = 9 * l.below + 6

abbrev pub decreases-iterate::evaluate_map : goal.decreases-iterate::evaluate_map
decreases-iterate::evaluate_map g l = 9 * l.below + 5

abbrev pub decreases-iterate::evaluate_filter : goal.decreases-iterate::evaluate_filter
decreases-iterate::evaluate_filter g l = 9 * l.below + 5

abbrev pub decreases-iterate::evaluate_fold : goal.decreases-iterate::evaluate_fold
decreases-iterate::evaluate_fold g l = 9 * l.below + 5

abbrev pub decreases-iterate::map_rows : goal.decreases-iterate::map_rows
decreases-iterate::map_rows g l = 9 * l.below + 4

abbrev pub decreases-iterate::filter : goal.decreases-iterate::filter
decreases-iterate::filter g l = 9 * l.below + 4

abbrev pub decreases-iterate::fold : goal.decreases-iterate::fold
decreases-iterate::fold g l = 9 * l.below + 4

abbrev pub decreases-iterate::apply_each : goal.decreases-iterate::apply_each
decreases-iterate::apply_each g l = 9 * l.below + 3

abbrev pub decreases-iterate::apply : goal.decreases-iterate::apply
decreases-iterate::apply g l = 9 * l.depth + 2

abbrev pub invariant-iterate::apply_each-loop-place : goal.invariant-iterate::apply_each-loop-place
invariant-iterate::apply_each-loop-place g l = record {
  so_far :
      (bound : List (List ℕ × Val)) → Fits l.context →
      watched (costs_of l.context) l.initial.meter (g.W.Watch.seen l.initial.watch) (each (applied l.below) (scope_of l.context bound) (callee_seen l.callee) (rows_from 0 l.sequences) l.initial.world.stack.top)
      ≡ onto l.results.items (watched (costs_of l.context) l.meter (g.W.Watch.seen l.watch) (each (applied l.below) (scope_of l.context bound) (callee_seen l.callee) (rows_from l.place l.sequences) l.world.stack.top));
  below : l.world.stack.below ≡ l.initial.world.stack.below;
  grew : amount (g.W.Watch.seen l.initial.watch) ≤ amount (g.W.Watch.seen l.watch);
}

abbrev pub invariant-iterate::fold-loop-place : goal.invariant-iterate::fold-loop-place
invariant-iterate::fold-loop-place g l = record {
  so_far :
      (bound : List (List ℕ × Val)) → Fits l.context →
      watched (costs_of l.context) l.initial.meter (g.W.Watch.seen l.initial.watch) (folded (applied l.below) (scope_of l.context bound) (callee_seen l.callee) (entries_from 0 l.sequence) l.initial.so_far l.initial.world.stack.top)
      ≡ watched (costs_of l.context) l.meter (g.W.Watch.seen l.watch) (folded (applied l.below) (scope_of l.context bound) (callee_seen l.callee) (entries_from l.place l.sequence) l.so_far l.world.stack.top);
  below : l.world.stack.below ≡ l.initial.world.stack.below;
  grew : amount (g.W.Watch.seen l.initial.watch) ≤ amount (g.W.Watch.seen l.watch);
}
