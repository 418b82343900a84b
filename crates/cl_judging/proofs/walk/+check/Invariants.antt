use Rattle.std.proofs.Common.{◌≡◌, ◌+◌, ◌*◌, ◌++◌, ◌≤◌, ℕ, List, true, false, length, map, filter_map, drop, take}
use Rattle.std.specs.Prelude.{is_some}
use Rattle.cl_sexpr.specs.Tree.{Tree}
use Rattle.cl_forms.specs.Shapes.{bindings_of}
use Rattle.cl_rules.specs.ControlShapes.{bound_name}
use Rattle.cl_judging.specs.Seen.{shadowed_in}
use Rattle.cl_judging.specs.LetWalk.{exprs_of, plan_of}
use Rattle.cl_sexpr.specs.Tree.{tree_size, forest_size, forest_depth, forest, pairs, pairs_size}
use Rattle.cl_rules.specs.Shapes.{Plan, parts}
use Rattle.cl_typing.specs.Verdicts.{texts_of}
use Rattle.cl_judging.specs.Walking.{Walked}
use Rattle.cl_judging.proofs.walk.+check.Given as goal

abbrev pub invariant-check_parts-loop-item : goal.invariant-check_parts-loop-item
invariant-check_parts-loop-item l = record {
  found : Walked l.ctx (parts l.initial.scope.entries l.items) (parts l.initial.scope.entries (drop l.item-index l.items)) (forest_depth (forest l.items) + 1) l.founds.items;
  text : texts_of l.founds.items ≡ take l.item-index l.items;
  kept : l.scope.entries ≡ l.initial.scope.entries;
}

abbrev pub decreases-check_expr : goal.decreases-check_expr
decreases-check_expr l = 4 * tree_size l.e.now

abbrev pub decreases-check_list : goal.decreases-check_list
decreases-check_list l = 4 * forest_size (forest l.items.now) + 3

abbrev pub decreases-check_head : goal.decreases-check_head
decreases-check_head l = 4 * forest_size (forest l.args.now) + 5

abbrev pub decreases-check_native : goal.decreases-check_native
decreases-check_native l = 4 * forest_size (forest l.args.now) + 3

abbrev pub decreases-check_parts : goal.decreases-check_parts
decreases-check_parts l = 4 * forest_size (forest l.items.now) + 1

abbrev pub invariant-check_more-loop-item : goal.invariant-check_more-loop-item
invariant-check_more-loop-item l = record {
  found : (whole : Plan) (deep : ℕ) → forest_depth (forest l.items) + 1 ≤ deep → Walked l.ctx whole (parts l.initial.scope.entries l.items) deep l.initial.founds.items → Walked l.ctx whole (parts l.initial.scope.entries (drop l.item-index l.items)) deep l.founds.items;
  text : texts_of l.founds.items ≡ texts_of l.initial.founds.items ++ take l.item-index l.items;
  kept : l.scope.entries ≡ l.initial.scope.entries;
}

abbrev pub invariant-check_bindings-loop-item : goal.invariant-check_bindings-loop-item
invariant-check_bindings-loop-item l = record {
  found : (body : List Tree) (deep : ℕ) → forest_depth (forest l.items) ≤ deep → Walked l.ctx (plan_of body l.initial.scope.entries l.items) (plan_of body l.scope.entries (drop l.item-index l.items)) deep l.founds.items;
  text : texts_of l.founds.items ≡ exprs_of (take l.item-index l.items);
  sound : is_some (bindings_of (drop l.item-index l.items)) ≡ true;
  free : shadowed_in l.ctx l.scope.entries (filter_map bound_name (drop l.item-index l.items)) ≡ false;
  kept : take (length l.initial.scope.entries) l.scope.entries ≡ l.initial.scope.entries;
  longer : length l.initial.scope.entries ≤ length l.scope.entries;
}

abbrev pub decreases-check_more : goal.decreases-check_more
decreases-check_more l = 4 * forest_size (forest l.items.now) + 1

abbrev pub decreases-check_bindings : goal.decreases-check_bindings
decreases-check_bindings l = 4 * forest_size (forest l.items.now) + 1

abbrev pub decreases-check_let_with : goal.decreases-check_let_with
decreases-check_let_with l = 4 * (forest_size (forest l.items.now) + forest_size (forest l.body.now)) + 2

abbrev pub decreases-check_let : goal.decreases-check_let
decreases-check_let l = 4 * forest_size (forest l.args.now) + 3

abbrev pub decreases-check_call : goal.decreases-check_call
decreases-check_call l = 4 * forest_size (forest l.args.now) + 3

abbrev pub decreases-check_named : goal.decreases-check_named
decreases-check_named l = 4 * forest_size (forest l.args.now) + 3

abbrev pub decreases-check_contract_call : goal.decreases-check_contract_call
decreases-check_contract_call l = 4 * forest_size (forest l.args.now) + 3

abbrev pub invariant-check_each-loop-item : goal.invariant-check_each-loop-item
invariant-check_each-loop-item l = record {
  found : Walked l.ctx (parts l.initial.scope.entries (map (λ e. e.now) l.items)) (parts l.initial.scope.entries (drop l.item-index (map (λ e. e.now) l.items))) (forest_depth (forest (map (λ e. e.now) l.items)) + 1) l.founds.items;
  text : texts_of l.founds.items ≡ take l.item-index (map (λ e. e.now) l.items);
  kept : l.scope.entries ≡ l.initial.scope.entries;
}

abbrev pub decreases-check_each : goal.decreases-check_each
decreases-check_each l = 4 * forest_size (forest (map (λ e. e.now) l.items.now)) + 1

abbrev pub decreases-check_tuple : goal.decreases-check_tuple
decreases-check_tuple l = 4 * pairs_size (pairs l.pairs.now) + 2

abbrev pub decreases-check_max_len : goal.decreases-check_max_len
decreases-check_max_len l = 4 * forest_size (forest l.args.now) + 3

abbrev pub decreases-check_branch : goal.decreases-check_branch
decreases-check_branch l = 4 * tree_size l.e.now + 1

abbrev pub decreases-check_optional : goal.decreases-check_optional
decreases-check_optional l = 4 * (tree_size l.input.now + tree_size l.some.now + tree_size l.none.now) + 3

abbrev pub decreases-check_cases : goal.decreases-check_cases
decreases-check_cases l = 4 * (tree_size l.some.now + tree_size l.none.now) + 2

abbrev pub decreases-check_response : goal.decreases-check_response
decreases-check_response l = 4 * (tree_size l.input.now + tree_size l.first.now + tree_size l.second.now) + 3

abbrev pub decreases-check_both : goal.decreases-check_both
decreases-check_both l = 4 * (tree_size l.first.now + tree_size l.second.now) + 2

abbrev pub decreases-check_match : goal.decreases-check_match
decreases-check_match l = 4 * forest_size (forest l.args.now) + 3

abbrev pub decreases-check_pairs : goal.decreases-check_pairs
decreases-check_pairs l = 4 * forest_size (forest l.args.now) + 3

abbrev pub decreases-check_iteration : goal.decreases-check_iteration
decreases-check_iteration l = 4 * forest_size (forest l.args.now) + 3
