use Rattle.std.proofs.Common.{true, false, length, take, ◌∷◌, ◌++◌, ◌≡◌, ◌<◌, List, Ok, Err, refl, sym, ap, subst, ◌∙◌, arith, [], ℕ, ◌+◌, map, eq-eqb, None, filter_map}
use Rattle.cl_shapes.specs.declared.name.CostName.TheVariants.{Literal}
use Rattle.cl_types.specs.Types.{IntType, UintType, PrincipalType, BuffType, AsciiType, Utf8Type}
use Rattle.cl_sexpr.specs.Tree.{Tree, ListAt, Signed, Unsigned, Standing, Local, forest, forest_size, tree_size, TupleAt, Bytes, Ascii, Unicode, Pairs, pairs, pairs_size, forest_depth}
use Rattle.cl_typing.specs.declared.concluding.Checked.{Checked}
use Rattle.cl_forms.specs.declared.head.Head.{Head}
use Rattle.cl_judging.specs.Walking.{Checks, Judges, Walked, ChecksHead, ChecksAll, RuledAs, head_at}
use Rattle.cl_judging.proofs.Atoms.{leaf_found, node_found, leaf_ruled}
use Rattle.cl_judging.proofs.Lists.{native_fails, native_fits, native_found, native_list, native_head, odd_list, list_text, text_by, few_parts, parts_count}
use Rattle.std.proofs.lemmas.List.{take_all}
use Rattle.cl_judging.specs.LetWalk.{plan_of, ChecksBindings, JudgesLet, exprs_of}
use Rattle.cl_judging.proofs.Plans.{walked_none, parts_stop, parts_turn, parts_end, texts_turn, part_less, texts_end}
use Rattle.cl_typing.specs.Verdicts.{texts_of, ConcludesRow}
use Rattle.cl_judging.proofs.LetWalks.{more_stop, more_turn, more_text, more_end, let_end, let_turn, let_stop, let_text, binding_less, free_next, free_here, nothing_bound, sound_next, no_odd}
use Rattle.cl_code.specs.Typed.{type_of}
use Rattle.cl_rules.specs.Context.{Names, bind, named_in}
use Rattle.std.specs.Prelude.{codes, is_some, ◌==◌}
use Rattle.cl_code.specs.Expression.{headed, word, keyed, bound_items}
use Rattle.cl_judging.proofs.Lets.{take_front, bind_longer, not_taken}
use Rattle.cl_judging.specs.Calls.{JudgesCall, JudgesCallee}
use Rattle.cl_judging.proofs.FunctionCalls.{call_named, call_goes, call_short, call_fails, call_found, call_list, unknown_list, word_text}
use Rattle.cl_judging.proofs.LetShapes.{let_taken, let_odd, let_part_fails, let_body_fails, let_found, let_whole, let_head, let_enough, let_few, let_fits, let_text as whole_text, exprs_count}
use Rattle.cl_forms.specs.Shapes.{bindings_of, binding_of}
use Rattle.cl_judging.specs.Named.{JudgesNamed, seen_given}
use Rattle.cl_judging.proofs.TargetLaws.{target_odd, target_none, function_odd, function_none, callee_short, callee_fails, callee_found}
use Rattle.cl_judging.proofs.Counts.{head_short, enough_as}
use Rattle.cl_judging.proofs.OwnNames.{named_own, let_own, contract_own, tuple_own, optional_own, response_own, tuple_of_own, max_own}
use Rattle.cl_judging.proofs.NamedShapes.{named_odd, named_unknown, named_fails, named_fits, named_found}
use Rattle.cl_sexpr.specs.Fits.{AllFit, Fits}
use Rattle.cl_judging.proofs.Fitting.{part_fits, binding_fits, pairs_fit, pairs_some, bound_fits, bound_room}
use Rattle.std.specs.Borrow.{Bor}
use Rattle.cl_sexpr.specs.declared.sexpr.Node.{Node}
use Rattle.cl_sexpr.specs.View.{tree_of}
use Rattle.cl_rules.specs.Faults.{sound_shape}
use Rattle.cl_rules.specs.NativeTypes.{made}
use Rattle.cl_rules.specs.Shapes.{Plan, parts}
use Rattle.cl_rules.specs.DataShapes.{keys_of, stands_twice, tuple_row}
use Rattle.cl_judging.proofs.References.{ref_length, ref_less, ref_at}
use Rattle.cl_judging.proofs.TupleShapes.{parts_in, pairs_room, keyed_back, keys_count, parts_as_many, tuple_fails, tuple_found, tuple_whole, tuple_twice, pairs_odd, pairs_twice, pairs_fails, pairs_found}
use Rattle.cl_judging.proofs.BoundPairs.{unbound, first_free, second_free}
use Rattle.cl_judging.proofs.MatchNodes.{three_few, three_fit, optional_text, response_text, four_or_five, four_size, four_fit, five_size, five_fit}
use Rattle.cl_judging.specs.Branching.{AddsTwo}
use Rattle.cl_judging.proofs.MatchCases.{two_more, first_breaks, second_breaks, all_three, all_texts, optional_stops, optional_fails, optional_ends, response_fails, response_ends}
use Rattle.cl_sexpr.specs.declared.rule.Rule.TheVariants.{BadBinding}
use Rattle.cl_judging.proofs.MatchShapes.{optional_taken, optional_input_fails, response_taken, response_input_fails, response_odd, match_whole, optional_no_name, response_no_name}
use Rattle.std.proofs.lemmas.Bool.{leb-true}
use Rattle.cl_judging.proofs.MaxLens.{max_odd, max_fails, max_found, max_text}
use Rattle.cl_judging.specs.Uses.{Iterates, iteration_verdict}
use Rattle.cl_judging.proofs.UseShapes.{not_applied, use_short, use_fails, use_found, use_fits, use_own, use_goes}
use Rattle.cl_forms.specs.HeadNames.{name_of, head_of_row, has_head}
use Rattle.cl_forms.specs.declared.version.Version.{Version}
use Rattle.cl_code.specs.Nodes.{goes_op, goes_applied}
use Rattle.cl_judging.proofs.NativeNames.{no_native, head_had}
use Rattle.cl_code.specs.OpNames.{iteration_head, name_head}
use Rattle.cl_rules.specs.ControlShapes.{bound_name}
use Rattle.cl_judging.specs.Seen.{shadowed_in}
use Rattle.cl_forms.specs.declared.head.Head.TheVariants as heads
use Rattle.cl_sexpr.specs.declared.sexpr.Node.TheVariants as nodes
use Rattle.cl_judging.proofs.walk.+check.Goals as goal

abbrev refs : List (Bor Tree) → List Tree
refs = map (λ (r : Bor Tree). r.now)

pub check_expr-returns-in-Atom-clause-found : goal.check_expr-returns-in-Atom-clause-found
check_expr-returns-in-Atom-clause-found t c = node_found c.args.ctx.now c.args.scope.now.entries c.e.inside.node (nodes.Atom c.in-Atom.name) c.e.inside.span c.args.e.now c.check_name.result c.e.view_is c.in-Atom.is c.check_name.ensures.found

pub check_expr-returns-in-List-clause-found : goal.check_expr-returns-in-List-clause-found
check_expr-returns-in-List-clause-found t c = node_found c.args.ctx.now c.args.scope.now.entries c.e.inside.node (nodes.List c.in-List.items) c.e.inside.span c.args.e.now c.check_list.result c.e.view_is c.in-List.is (subst (λ (ts : List Tree). Checks c.args.ctx.now c.args.scope.now.entries (ListAt (forest ts) c.e.inside.span) c.check_list.result) c.deref-in-List.ensures.value c.check_list.ensures.found)

pub check_list-returns-in_default-clause-found : goal.check_list-returns-in_default-clause-found
check_list-returns-in_default-clause-found t c = odd_list c.args.ctx.now c.args.scope.now.entries c.args.items.now c.args.span c.broken.result c.in_default.ensures.none c.broken.ensures

pub check_parts-check_expr-requires : goal.check_parts-check_expr-requires
check_parts-check_expr-requires t c =
    let less : tree_size c.item-item.result < forest_size (forest c.args.items.now) = part_less c.args.items.now c.loop-item.item-index c.item-item.result c.loop-item-test.true (sym c.item-item.is) in
    (omega (arith, less, c.decreases), (omega (arith, less, c.requires.small), part_fits c.args.items.now c.loop-item.item-index c.item-item.result c.loop-item-test.true (sym c.item-item.is) c.requires.fits))

pub check_parts-returns-in-Err-clause-found : goal.check_parts-returns-in-Err-clause-found
check_parts-returns-in-Err-clause-found t c = parts_stop c.args.ctx.now c.args.scope.now.entries c.loop-item.scope.entries c.args.items.now c.loop-item.item-index c.item-item.result c.loop-item.founds.items c.in-Err.fault c.loop-item-test.true (sym c.item-item.is) c.loop-item.invariant.kept c.in-Err.ensures.found c.loop-item.invariant.found

pub check_parts-loop-item-preserved : goal.check_parts-loop-item-preserved
check_parts-loop-item-preserved t c = record {
  found = parts_turn c.args.ctx.now c.args.scope.now.entries c.loop-item.scope.entries c.args.items.now c.loop-item.item-index c.item-item.result c.loop-item.founds.items c.push.new.founds.items c.in-Ok.found c.loop-item-test.true (sym c.item-item.is) c.loop-item.invariant.kept c.in-Ok.ensures.text c.in-Ok.ensures.found c.in_ok-push-in-Ok.ensures c.loop-item.invariant.found;
  text = texts_turn c.args.items.now c.loop-item.item-index c.item-item.result c.loop-item.founds.items c.push.new.founds.items c.in-Ok.found c.loop-item-test.true (sym c.item-item.is) c.in-Ok.ensures.text c.in_ok-push-in-Ok.ensures c.loop-item.invariant.text;
  kept = c.in-Ok.ensures.kept ∙ c.loop-item.invariant.kept;
}

pub check_parts-returns-clause-found : goal.check_parts-returns-clause-found
check_parts-returns-clause-found t c = parts_end c.args.ctx.now c.args.scope.now.entries c.args.items.now c.loop-item.item-index c.loop-item.founds c.loop-item-test.false c.loop-item.invariant.found

pub check_parts-returns-clause-text : goal.check_parts-returns-clause-text
check_parts-returns-clause-text t c = texts_end c.args.items.now c.loop-item.item-index (texts_of c.loop-item.founds.items) c.loop-item-test.false c.loop-item.invariant.text

pub check_more-check_expr-requires : goal.check_more-check_expr-requires
check_more-check_expr-requires t c =
    let less : tree_size c.item-item.result < forest_size (forest c.args.items.now) = part_less c.args.items.now c.loop-item.item-index c.item-item.result c.loop-item-test.true (sym c.item-item.is) in
    (omega (arith, less, c.decreases), (omega (arith, less, c.requires.small), part_fits c.args.items.now c.loop-item.item-index c.item-item.result c.loop-item-test.true (sym c.item-item.is) c.requires.fits))

pub check_more-returns-in-Err-clause-found : goal.check_more-returns-in-Err-clause-found
check_more-returns-in-Err-clause-found t c = more_stop c.args.ctx.now c.args.scope.now.entries c.loop-item.scope.entries c.args.items.now c.loop-item.item-index c.item-item.result c.args.founds.now.items c.loop-item.founds.items c.in-Err.fault c.loop-item-test.true (sym c.item-item.is) c.loop-item.invariant.kept c.in-Err.ensures.found c.loop-item.invariant.found

pub check_more-loop-item-preserved : goal.check_more-loop-item-preserved
check_more-loop-item-preserved t c = record {
  found = more_turn c.args.ctx.now c.args.scope.now.entries c.loop-item.scope.entries c.args.items.now c.loop-item.item-index c.item-item.result c.args.founds.now.items c.loop-item.founds.items c.push.new.founds.items c.in-Ok.found c.loop-item-test.true (sym c.item-item.is) c.loop-item.invariant.kept c.in-Ok.ensures.text c.in-Ok.ensures.found c.in_ok-push-in-Ok.ensures c.loop-item.invariant.found;
  text = more_text c.args.items.now (texts_of c.args.founds.now.items) c.loop-item.item-index c.item-item.result c.loop-item.founds.items c.push.new.founds.items c.in-Ok.found c.loop-item-test.true (sym c.item-item.is) c.in-Ok.ensures.text c.in_ok-push-in-Ok.ensures c.loop-item.invariant.text;
  kept = c.in-Ok.ensures.kept ∙ c.loop-item.invariant.kept;
}

pub check_more-returns-clause-found : goal.check_more-returns-clause-found
check_more-returns-clause-found t c = more_end c.args.ctx.now c.args.scope.now.entries c.args.items.now c.loop-item.item-index c.args.founds.now.items c.loop-item.founds.items c.loop-item-test.false c.loop-item.invariant.found

pub check_more-returns-clause-text : goal.check_more-returns-clause-text
check_more-returns-clause-text t c = c.loop-item.invariant.text ∙ ap (λ (ts : List Tree). texts_of c.args.founds.now.items ++ ts) (take_all c.loop-item.item-index c.args.items.now c.loop-item-test.false)

pub check_bindings-loop-item-init : goal.check_bindings-loop-item-init
check_bindings-loop-item-init t c =
    let plan : List Tree → Plan = λ body. plan_of body c.args.scope.now.entries c.args.items.now in
    let bound = nothing_bound c.args.scope.now.entries in
    record {
      found = λ body deep enough. subst (λ (cs : List Checked). Walked c.args.ctx.now (plan body) (plan body) deep cs) (sym c.new-founds.ensures.items) (walked_none c.args.ctx.now (plan body) deep);
      text = ap texts_of c.new-founds.ensures.items;
      sound = c.requires.sound;
      free = c.requires.free;
      kept = bound.0;
      longer = bound.1;
    }

pub check_bindings-unreachable-requires : goal.check_bindings-unreachable-requires
check_bindings-unreachable-requires t c = no_odd c.args.items.now c.loop-item.item-index c.item-item.result c.loop-item-test.true (sym c.item-item.is) c.in_default.ensures.none c.loop-item.invariant.sound

pub check_bindings-check_expr-requires : goal.check_bindings-check_expr-requires
check_bindings-check_expr-requires t c =
    let less : tree_size c.in-Some.e.now < forest_size (forest c.args.items.now) = binding_less c.args.items.now c.loop-item.item-index c.item-item.result c.in-Some.binding c.in-Some.e.now c.loop-item-test.true (sym c.item-item.is) c.in-Some.ensures.some in
    (omega (arith, less, c.decreases), (omega (arith, less, c.requires.small), binding_fits c.args.items.now c.loop-item.item-index c.item-item.result c.in-Some.binding c.in-Some.e.now c.loop-item-test.true (sym c.item-item.is) c.in-Some.ensures.some c.requires.fits))

pub check_bindings-add_binding-requires : goal.check_bindings-add_binding-requires
check_bindings-add_binding-requires t c =
    subst (λ (N : Names). named_in c.in-Some.binding.word.name N ≡ None) (sym c.in-Ok.ensures.kept)
    (free_here c.args.ctx.now c.loop-item.scope.entries c.args.items.now c.loop-item.item-index c.item-item.result c.in-Some.binding c.in-Some.e.now c.loop-item-test.true (sym c.item-item.is) c.in-Some.ensures.some c.loop-item.invariant.free)

pub check_bindings-returns-in-Err-clause-found : goal.check_bindings-returns-in-Err-clause-found
check_bindings-returns-in-Err-clause-found t c = let_stop c.args.ctx.now c.args.scope.now.entries c.loop-item.scope.entries c.args.items.now c.loop-item.item-index c.item-item.result c.in-Some.binding c.in-Some.e.now c.loop-item.founds.items c.in-Err.fault c.loop-item-test.true (sym c.item-item.is) c.in-Some.ensures.some c.in-Err.ensures.found c.loop-item.invariant.found

pub check_bindings-loop-item-preserved : goal.check_bindings-loop-item-preserved
check_bindings-loop-item-preserved t c =
    let bound = c.in_ok-add_binding-in-Ok.ensures.bound in
    let grown = c.in_ok-add_binding-in-Ok.ensures.grown in
    let names = bound ∙ ap (bind c.in-Some.binding.word.name (type_of c.in-Ok.found.code)) c.in-Ok.ensures.kept in
    record {
      found = let_turn c.args.ctx.now c.args.scope.now.entries c.loop-item.scope.entries c.check_expr.new.scope.entries c.add_binding.new.scope.entries c.args.items.now c.loop-item.item-index c.item-item.result c.in-Some.binding c.in-Some.e.now c.loop-item.founds.items c.add_binding.new.founds.items c.in-Ok.found c.loop-item-test.true (sym c.item-item.is) c.in-Some.ensures.some c.in-Ok.ensures.text c.in-Ok.ensures.found bound c.in-Ok.ensures.kept grown c.loop-item.invariant.found;
      text = let_text c.args.items.now c.loop-item.item-index c.item-item.result c.in-Some.binding c.in-Some.e.now c.loop-item.founds.items c.add_binding.new.founds.items c.in-Ok.found c.loop-item-test.true (sym c.item-item.is) c.in-Some.ensures.some c.in-Ok.ensures.text grown c.loop-item.invariant.text;
      sound = sound_next c.args.items.now c.loop-item.item-index c.item-item.result c.loop-item-test.true (sym c.item-item.is) c.loop-item.invariant.sound;
      free = free_next c.args.ctx.now c.loop-item.scope.entries c.add_binding.new.scope.entries (type_of c.in-Ok.found.code) c.args.items.now c.loop-item.item-index c.item-item.result c.in-Some.binding c.in-Some.e.now c.loop-item-test.true (sym c.item-item.is) c.in-Some.ensures.some names c.loop-item.invariant.free;
      kept = ap (take (length c.args.scope.now.entries)) names ∙ take_front c.args.scope.now.entries (length c.args.scope.now.entries) c.loop-item.scope.entries c.in-Some.binding.word.name (type_of c.in-Ok.found.code) c.loop-item.invariant.longer c.loop-item.invariant.kept;
      longer = rw names (bind_longer (length c.args.scope.now.entries) c.loop-item.scope.entries c.in-Some.binding.word.name (type_of c.in-Ok.found.code) c.loop-item.invariant.longer);
    }

pub check_bindings-returns-clause-found : goal.check_bindings-returns-clause-found
check_bindings-returns-clause-found t c = let_end c.args.ctx.now c.args.scope.now.entries c.loop-item.scope.entries c.args.items.now c.loop-item.item-index c.loop-item.founds.items c.loop-item-test.false c.loop-item.invariant.found

pub check_bindings-returns-clause-text : goal.check_bindings-returns-clause-text
check_bindings-returns-clause-text t c = c.loop-item.invariant.text ∙ ap exprs_of (take_all c.loop-item.item-index c.args.items.now c.loop-item-test.false)

pub check_let-returns-clause-found : goal.check_let-returns-clause-found
check_let-returns-clause-found t c = let_whole c.args.ctx.now c.args.scope.now.entries c.args.args.now c.in-Some-items_at.items.now c.in-Some.body.now c.in-Some.first.now c.in-Some-items_at.at c.args.span c.check_let_with.result c.in-Some.ensures.some c.in-Some-items_at.ensures.some c.check_let_with.ensures.found

pub check_let_with-returns-then-branch-clause-found : goal.check_let_with-returns-then-branch-clause-found
check_let_with-returns-then-branch-clause-found t c = let_taken c.args.ctx.now c.args.scope.now.entries c.args.items.now c.args.body.now c.args.span c.requires.body c.in_ok-is_shadowed.field-0 c.broken.result c.in_ok-is_shadowed.ensures.found c.if-branch.true c.broken.ensures

pub check_let_with-returns-then-not-are_bindings-clause-found : goal.check_let_with-returns-then-not-are_bindings-clause-found
check_let_with-returns-then-not-are_bindings-clause-found t c = let_odd c.args.ctx.now c.args.scope.now.entries c.args.items.now c.args.body.now c.args.span c.requires.body c.in_ok-is_shadowed.field-0 c.are_bindings.result c.broken-then-not-are_bindings.result c.in_ok-is_shadowed.ensures.found c.if-branch.false c.are_bindings.ensures c.if-not-are_bindings.true c.broken-then-not-are_bindings.ensures

pub check_let_with-returns-in-Err-clause-found : goal.check_let_with-returns-in-Err-clause-found
check_let_with-returns-in-Err-clause-found t c = let_part_fails c.args.ctx.now c.args.scope.now.entries c.args.items.now c.args.body.now c.args.span c.requires.body c.in_ok-is_shadowed.field-0 c.are_bindings.result c.in_ok-is_shadowed.ensures.found c.if-branch.false c.are_bindings.ensures c.if-not-are_bindings.false c.check_bindings.new.scope.entries c.in-Err.fault (subst (λ (N : Names). ChecksBindings c.args.ctx.now N c.check_bindings.new.scope.entries c.args.items.now (Err c.in-Err.fault)) c.in_ok-is_shadowed.ensures.kept c.in-Err.ensures.found)

pub check_let_with-returns-in-Err-check_more-clause-found : goal.check_let_with-returns-in-Err-check_more-clause-found
check_let_with-returns-in-Err-check_more-clause-found t c = let_body_fails c.args.ctx.now c.args.scope.now.entries c.args.items.now c.args.body.now c.args.span c.requires.body c.in_ok-is_shadowed.field-0 c.are_bindings.result c.in_ok-is_shadowed.ensures.found c.if-branch.false c.are_bindings.ensures c.if-not-are_bindings.false c.check_bindings.new.scope.entries c.in-Ok.founds c.check_more.new.founds.items c.in-Err-check_more.fault (subst (λ (N : Names). ChecksBindings c.args.ctx.now N c.check_bindings.new.scope.entries c.args.items.now (Ok c.in-Ok.founds)) c.in_ok-is_shadowed.ensures.kept c.in-Ok.ensures.found) c.in-Err-check_more.ensures.found

pub check_let_with-on_bodies-concluded-requires : goal.check_let_with-on_bodies-concluded-requires
check_let_with-on_bodies-concluded-requires t c = rw c.deref.ensures.value (let_enough c.args.items.now c.args.body.now c.check_more.new.founds.items (sym c.are_bindings.ensures ∙ c.if-not-are_bindings.false) (c.in-Ok-check_more.ensures.text ∙ ap (λ (ts : List Tree). ts ++ c.args.body.now) c.in-Ok.ensures.text))

pub check_let_with-returns-clause-found : goal.check_let_with-returns-clause-found
unfolding goes_op
check_let_with-returns-clause-found t c = let_found c.args.ctx.now c.args.scope.now.entries c.args.items.now c.args.body.now c.args.span c.requires.body c.in_ok-is_shadowed.field-0 c.are_bindings.result c.in_ok-is_shadowed.ensures.found c.if-branch.false c.are_bindings.ensures c.if-not-are_bindings.false c.check_bindings.new.scope.entries c.in-Ok.founds c.check_more.new.founds c.in-Ok-check_more.field-0 c.on_bodies-concluded.result c.finish.result (subst (λ (N : Names). ChecksBindings c.args.ctx.now N c.check_bindings.new.scope.entries c.args.items.now (Ok c.in-Ok.founds)) c.in_ok-is_shadowed.ensures.kept c.in-Ok.ensures.found) c.in-Ok-check_more.ensures.found (subst (λ (cs : List Checked). JudgesLet (length c.args.items.now) cs c.on_bodies-concluded.result) c.deref.ensures.value c.on_bodies-concluded.ensures) (λ G shows. c.finish.ensures.found G refl)

pub check_let_with-returns-clause-text : goal.check_let_with-returns-clause-text
check_let_with-returns-clause-text t c = text_by c.finish.result _ (headed (codes "let") c.args.head (ListAt (forest c.args.items.now) c.args.at ∷ c.args.body.now) c.args.span) c.finish.ensures.text (whole_text c.args.items.now c.args.body.now (texts_of c.check_more.new.founds.items) c.in_ok-bindings.bindings.items c.args.head c.args.at c.args.span (sym c.are_bindings.ensures ∙ c.if-not-are_bindings.false) (c.in-Ok-check_more.ensures.text ∙ ap (λ (ts : List Tree). ts ++ c.args.body.now) c.in-Ok.ensures.text) c.in_ok-bindings.ensures.text c.in_ok-bindings.ensures.count)

pub check_call-returns-then-not-has_count-clause-found : goal.check_call-returns-then-not-has_count-clause-found
check_call-returns-then-not-has_count-clause-found t c = call_short c.args.f.now c.args.scope.now.entries c.args.args.now c.args.ctx.now c.args.head.name c.args.span c.requires.there c.has_count.result c.broken.result c.has_count.ensures c.if-not-has_count.true c.broken.ensures

pub check_call-returns-in-Err-clause-found : goal.check_call-returns-in-Err-clause-found
check_call-returns-in-Err-clause-found t c = call_fails c.args.f.now c.args.scope.now.entries c.args.args.now c.args.ctx.now c.args.head.name c.args.span c.requires.there c.has_count.result c.has_count.ensures c.if-not-has_count.false c.in-Err.fault c.in-Err.ensures.found

pub check_call-returns-clause-found : goal.check_call-returns-clause-found
check_call-returns-clause-found t c = call_found c.args.f.now c.args.scope.now.entries c.args.args.now c.args.ctx.now c.args.head.name c.args.span c.requires.there c.has_count.result c.has_count.ensures c.if-not-has_count.false c.in-Ok.parts c.on_call-concluded.result c.finish.result c.in-Ok.ensures.found (subst (λ (cs : List Checked). JudgesCall c.args.f.now cs c.on_call-concluded.result) c.deref.ensures.value c.on_call-concluded.ensures) (λ G shows. c.finish.ensures.found G (call_goes G.version c.args.head (no_native c.args.ctx.now c.args.head.name c.requires.own G shows)))

pub check_list-returns-in-Some-function_under-clause-found : goal.check_list-returns-in-Some-function_under-clause-found
check_list-returns-in-Some-function_under-clause-found t c = call_list c.args.ctx.now c.args.scope.now.entries c.args.items.now c.in-Some.head c.in-Some.args.now c.args.span c.check_call.result c.in-Some.ensures.some c.in_default-native.ensures c.check_call.ensures.found

pub check_list-returns-in-Some-function_under-clause-text : goal.check_list-returns-in-Some-function_under-clause-text
check_list-returns-in-Some-function_under-clause-text t c = text_by c.check_call.result _ (ListAt (forest c.args.items.now) c.args.span) c.check_call.ensures.text (word_text c.args.items.now c.in-Some.head c.in-Some.args.now c.args.span c.in-Some.ensures.some)

pub check_list-returns-clause-found : goal.check_list-returns-clause-found
check_list-returns-clause-found t c = unknown_list c.args.ctx.now c.args.scope.now.entries c.args.items.now c.in-Some.head c.in-Some.args.now c.args.span c.broken-2.result c.in-Some.ensures.some c.in_default-native.ensures c.in_default-function_under.ensures c.broken-2.ensures

pub check_expr-returns-in-Int-clause-found : goal.check_expr-returns-in-Int-clause-found
check_expr-returns-in-Int-clause-found t c = node_found c.args.ctx.now c.args.scope.now.entries c.e.inside.node (nodes.Int c.in-Int.z) c.e.inside.span c.args.e.now c.int.result c.e.view_is c.in-Int.is (leaf_found c.args.ctx.now c.args.scope.now.entries (Signed c.in-Int.z) c.e.inside.span Literal IntType c.int.result (λ G shows. refl) c.int.ensures.found)

pub check_expr-returns-in-Uint-clause-found : goal.check_expr-returns-in-Uint-clause-found
check_expr-returns-in-Uint-clause-found t c = node_found c.args.ctx.now c.args.scope.now.entries c.e.inside.node (nodes.Uint c.in-Uint.n) c.e.inside.span c.args.e.now c.uint.result c.e.view_is c.in-Uint.is (leaf_found c.args.ctx.now c.args.scope.now.entries (Unsigned c.in-Uint.n) c.e.inside.span Literal UintType c.uint.result (λ G shows. refl) c.uint.ensures.found)

pub check_expr-returns-in-Standing-clause-found : goal.check_expr-returns-in-Standing-clause-found
check_expr-returns-in-Standing-clause-found t c = node_found c.args.ctx.now c.args.scope.now.entries c.e.inside.node (nodes.Standing c.in-Standing.p) c.e.inside.span c.args.e.now c.standing.result c.e.view_is c.in-Standing.is (leaf_found c.args.ctx.now c.args.scope.now.entries (Standing c.in-Standing.p) c.e.inside.span Literal PrincipalType c.standing.result (λ G shows. refl) c.standing.ensures.found)

pub check_expr-returns-in-Local-clause-found : goal.check_expr-returns-in-Local-clause-found
check_expr-returns-in-Local-clause-found t c = node_found c.args.ctx.now c.args.scope.now.entries c.e.inside.node (nodes.Local c.in-Local.c) c.e.inside.span c.args.e.now c.local.result c.e.view_is c.in-Local.is (leaf_found c.args.ctx.now c.args.scope.now.entries (Local c.in-Local.c) c.e.inside.span Literal PrincipalType c.local.result (λ G shows. refl) c.local.ensures.found)

pub check_native-returns-in-Err-clause-found : goal.check_native-returns-in-Err-clause-found
check_native-returns-in-Err-clause-found t c = native_fails c.args.ctx.now c.args.native c.args.scope.now.entries c.args.args.now c.args.span true (sym c.requires.enough) refl c.in-Err.fault c.in-Err.ensures.found

pub check_native-finish-requires : goal.check_native-finish-requires
check_native-finish-requires t c = record {
  few = few_parts c.in-Ok.parts.items c.args.args.now c.in-Ok.ensures.text c.requires.small;
  fit = native_fits c.args.ctx.now c.args.native c.args.scope.now.entries c.args.args.now c.args.span true (sym c.requires.enough) refl c.in-Ok.parts.items c.op_of.result c.op_of.ensures.fit c.in-Ok.ensures.text;
  named = c.op_of.ensures.named;
}

pub check_native-returns-clause-found : goal.check_native-returns-clause-found
check_native-returns-clause-found t c = native_found c.args.ctx.now c.args.native c.args.scope.now.entries c.args.args.now c.args.span true (sym c.requires.enough) refl c.in-Ok.parts c.judge-concluded.result c.finish.result c.in-Ok.ensures.found (subst (λ (cs : List Checked). Judges c.args.native cs c.judge-concluded.result) c.deref.ensures.value c.judge-concluded.ensures) (λ G shows. c.finish.ensures.found G (c.op_of.ensures.goes G.version (ap (λ (version : Version). has_head version (head_at c.args.native)) shows.version ∙ c.requires.had)))

pub check_list-returns-in-Some-native-clause-found : goal.check_list-returns-in-Some-native-clause-found
check_list-returns-in-Some-native-clause-found t c = native_list c.args.ctx.now c.args.scope.now.entries c.args.items.now c.in-Some.head c.in-Some.args.now c.args.span c.in-Some-native.row.head c.check_head.result c.in-Some.ensures.some (ap head_of_row c.in-Some-native.ensures) c.check_head.ensures.found

pub check_list-returns-in-Some-native-clause-text : goal.check_list-returns-in-Some-native-clause-text
check_list-returns-in-Some-native-clause-text t c = text_by c.check_head.result _ (ListAt (forest c.args.items.now) c.args.span) c.check_head.ensures.text (list_text c.args.ctx.now.version c.args.items.now c.in-Some.head c.in-Some.args.now c.args.span c.in-Some-native.row.head c.in-Some.ensures.some (ap head_of_row c.in-Some-native.ensures))

pub check_call-finish-requires : goal.check_call-finish-requires
check_call-finish-requires t c = record {
  few = few_parts c.in-Ok.parts.items c.args.args.now c.in-Ok.ensures.text c.requires.small;
  fit = refl;
  named = call_named c.args.head;
}

pub check_head-returns-then-not-has_enough-clause-found : goal.check_head-returns-then-not-has_enough-clause-found
check_head-returns-then-not-has_enough-clause-found t c = head_short c.args.ctx.now c.args.head c.args.scope.now.entries c.args.args.now c.args.span c.has_enough.result c.broken.result c.has_enough.ensures c.if-not-has_enough.true c.broken.ensures

pub check_head-returns-in-Evaluated-clause-found : goal.check_head-returns-in-Evaluated-clause-found
check_head-returns-in-Evaluated-clause-found t c = native_head c.args.ctx.now c.in-Evaluated.native c.args.head c.args.scope.now.entries c.args.args.now c.args.span c.check_native.result (sym c.in-Evaluated.ensures) c.check_native.ensures.found

pub check_head-returns-in-Named-clause-found : goal.check_head-returns-in-Named-clause-found
check_head-returns-in-Named-clause-found t c = subst (λ (h : Head). ChecksHead c.args.ctx.now h c.args.scope.now.entries c.args.args.now c.args.span c.check_named.result) c.in-Named.ensures c.check_named.ensures.found

pub check_head-returns-in-Let-clause-found : goal.check_head-returns-in-Let-clause-found
check_head-returns-in-Let-clause-found t c = let_head c.args.ctx.now c.args.head c.args.scope.now.entries c.args.args.now c.args.span c.check_let.result c.in-Let.ensures c.check_let.ensures.found

pub check_let_with-finish-requires : goal.check_let_with-finish-requires
check_let_with-finish-requires t c =
    let sound : is_some (bindings_of c.args.items.now) ≡ true = sym c.are_bindings.ensures ∙ c.if-not-are_bindings.false in
    let text : texts_of c.check_more.new.founds.items ≡ exprs_of c.args.items.now ++ c.args.body.now = c.in-Ok-check_more.ensures.text ∙ ap (λ (ts : List Tree). ts ++ c.args.body.now) c.in-Ok.ensures.text in
    record {
      few = let_few c.args.items.now c.args.body.now c.check_more.new.founds.items sound text c.requires.small;
      fit = let_fits c.args.items.now c.args.body.now c.in_ok-bindings.bindings.items c.check_more.new.founds.items sound text c.in_ok-bindings.ensures.count c.requires.body;
      named = let_own c.args.head c.args.at c.in_ok-bindings.bindings;
    }

pub check_named-returns-in_default-name_in-clause-found : goal.check_named-returns-in_default-name_in-clause-found
check_named-returns-in_default-name_in-clause-found t c = named_odd c.args.ctx.now c.args.native c.args.scope.now.entries c.args.args.now c.args.span c.requires.enough c.in-Some.first.now c.in-Some.rest.now c.broken.result c.in-Some.ensures.some c.in_default-name_in.ensures.none c.broken.ensures

pub check_named-returns-in_default-given_by-clause-found : goal.check_named-returns-in_default-given_by-clause-found
check_named-returns-in_default-given_by-clause-found t c = named_unknown c.args.ctx.now c.args.native c.args.scope.now.entries c.args.args.now c.args.span c.requires.enough c.in-Some-name_in.name c.in-Some.rest.now (c.in-Some.ensures.some ∙ ap (λ (t : Tree). t ∷ c.in-Some.rest.now) c.in-Some-name_in.ensures.some) c.missing.result c.broken-in_default-given_by.result c.in_default-given_by.ensures c.missing.ensures c.broken-in_default-given_by.ensures

pub check_named-returns-in-Err-clause-found : goal.check_named-returns-in-Err-clause-found
check_named-returns-in-Err-clause-found t c = named_fails c.args.ctx.now c.args.native c.args.scope.now.entries c.args.args.now c.args.span c.requires.enough c.in-Some-name_in.name c.in-Some.rest.now (c.in-Some.ensures.some ∙ ap (λ (t : Tree). t ∷ c.in-Some.rest.now) c.in-Some-name_in.ensures.some) (seen_given c.in-Some-given_by.found) c.in-Some-given_by.ensures c.in-Err.fault c.in-Err.ensures.found

pub check_named-finish-requires : goal.check_named-finish-requires
check_named-finish-requires t c =
    let size : forest_size (forest c.args.args.now) ≡ forest_size (forest (c.in-Some.first.now ∷ c.in-Some.rest.now)) = ap (λ (ts : List Tree). forest_size (forest ts)) c.in-Some.ensures.some in
    record {
      few = few_parts c.in-Ok.parts.items c.in-Some.rest.now c.in-Ok.ensures.text (omega (arith, size, c.requires.small));
      fit = named_fits c.args.ctx.now c.args.native c.args.scope.now.entries c.args.args.now c.args.span c.requires.enough c.in-Some-name_in.name c.in-Some.rest.now (c.in-Some.ensures.some ∙ ap (λ (t : Tree). t ∷ c.in-Some.rest.now) c.in-Some-name_in.ensures.some) c.in-Ok.parts.items c.args.head c.in-Ok.ensures.text;
      named = named_own c.args.native c.args.head c.in-Some-name_in.name;
    }

pub check_named-returns-clause-found : goal.check_named-returns-clause-found
unfolding goes_op
check_named-returns-clause-found t c = named_found c.args.ctx.now c.args.native c.args.scope.now.entries c.args.args.now c.args.span c.requires.enough c.in-Some-name_in.name c.in-Some.rest.now (c.in-Some.ensures.some ∙ ap (λ (t : Tree). t ∷ c.in-Some.rest.now) c.in-Some-name_in.ensures.some) (seen_given c.in-Some-given_by.found) c.in-Some-given_by.ensures c.in-Ok.parts c.on_name-concluded.result c.finish.result c.in-Ok.ensures.found (subst (λ (cs : List Checked). JudgesNamed c.args.native (seen_given c.in-Some-given_by.found) cs c.on_name-concluded.result) c.deref.ensures.value c.on_name-concluded.ensures) (λ G shows. c.finish.ensures.found G refl)

pub check_head-returns-in-ContractCall-clause-found : goal.check_head-returns-in-ContractCall-clause-found
check_head-returns-in-ContractCall-clause-found t c = subst (λ (h : Head). ChecksHead c.args.ctx.now h c.args.scope.now.entries c.args.args.now c.args.span c.check_contract_call.result) c.in-ContractCall.ensures c.check_contract_call.ensures.found

pub check_contract_call-returns-in_default-target_in-clause-found : goal.check_contract_call-returns-in_default-target_in-clause-found
check_contract_call-returns-in_default-target_in-clause-found t c = target_odd c.args.ctx.now c.args.scope.now.entries c.args.args.now c.args.span c.requires.enough c.in-Some.first.now c.in-Some.second.now c.in-Some.rest.now c.in-Some.ensures.some c.broken.result c.in_default-target_in.ensures.none c.broken.ensures

pub check_contract_call-returns-in_default-another_at-clause-found : goal.check_contract_call-returns-in_default-another_at-clause-found
check_contract_call-returns-in_default-another_at-clause-found t c = target_none c.args.ctx.now c.args.scope.now.entries c.args.args.now c.args.span c.requires.enough c.in-Some.first.now c.in-Some.second.now c.in-Some.rest.now c.in-Some.ensures.some c.in-Some-target_in.principal c.in-Some-target_in.ensures.literal c.in_default-another_at.ensures.indexed c.broken-in_default-another_at.result c.in_default-another_at.ensures.found c.broken-in_default-another_at.ensures

pub check_contract_call-returns-in_default-name_in-clause-found : goal.check_contract_call-returns-in_default-name_in-clause-found
check_contract_call-returns-in_default-name_in-clause-found t c = function_odd c.args.ctx.now c.args.scope.now.entries c.args.args.now c.args.span c.requires.enough c.in-Some.first.now c.in-Some.second.now c.in-Some.rest.now c.in-Some.ensures.some c.in-Some-target_in.principal c.in-Some-target_in.ensures.literal c.in-Some-another_at.ensures.indexed c.in-Some-another_at.contract.now c.in-Some-another_at.ensures.found c.broken-in_default-name_in.result c.in_default-name_in.ensures.none c.broken-in_default-name_in.ensures

pub check_contract_call-returns-in_default-callable-clause-found : goal.check_contract_call-returns-in_default-callable-clause-found
check_contract_call-returns-in_default-callable-clause-found t c = function_none c.args.ctx.now c.args.scope.now.entries c.args.args.now c.args.span c.requires.enough c.in-Some.first.now c.in-Some.second.now c.in-Some.rest.now c.in-Some.ensures.some c.in-Some-target_in.principal c.in-Some-target_in.ensures.literal c.in-Some-another_at.ensures.indexed c.in-Some-another_at.contract.now c.in-Some-another_at.ensures.found c.in-Some-name_in.function c.in-Some-name_in.ensures.some c.broken-in_default-callable.result c.in_default-callable.ensures c.broken-in_default-callable.ensures

pub check_contract_call-returns-then-not-has_as_many-clause-found : goal.check_contract_call-returns-then-not-has_as_many-clause-found
check_contract_call-returns-then-not-has_as_many-clause-found t c = callee_short c.args.ctx.now c.args.scope.now.entries c.args.args.now c.args.span c.requires.enough c.in-Some.first.now c.in-Some.second.now c.in-Some.rest.now c.in-Some.ensures.some c.in-Some-target_in.principal c.in-Some-target_in.ensures.literal c.in-Some-another_at.ensures.indexed c.in-Some-another_at.contract.now c.in-Some-another_at.ensures.found c.in-Some-name_in.function c.in-Some-name_in.ensures.some c.in-Some-callable.f.now c.in-Some-callable.ensures c.has_as_many.result c.broken-then-not-has_as_many.result c.has_as_many.ensures c.if-not-has_as_many.true c.broken-then-not-has_as_many.ensures

pub check_contract_call-returns-in-Err-clause-found : goal.check_contract_call-returns-in-Err-clause-found
check_contract_call-returns-in-Err-clause-found t c = callee_fails c.args.ctx.now c.args.scope.now.entries c.args.args.now c.args.span c.requires.enough c.in-Some.first.now c.in-Some.second.now c.in-Some.rest.now c.in-Some.ensures.some c.in-Some-target_in.principal c.in-Some-target_in.ensures.literal c.in-Some-another_at.ensures.indexed c.in-Some-another_at.contract.now c.in-Some-another_at.ensures.found c.in-Some-name_in.function c.in-Some-name_in.ensures.some c.in-Some-callable.f.now c.in-Some-callable.ensures c.has_as_many.result c.has_as_many.ensures c.if-not-has_as_many.false c.in-Err.fault c.in-Err.ensures.found

pub check_contract_call-finish-requires : goal.check_contract_call-finish-requires
check_contract_call-finish-requires t c =
    let size : forest_size (forest c.args.args.now) ≡ forest_size (forest (c.in-Some.first.now ∷ c.in-Some.second.now ∷ c.in-Some.rest.now)) = ap (λ (ts : List Tree). forest_size (forest ts)) c.in-Some.ensures.some in
    record {
      few = few_parts c.in-Ok.parts.items c.in-Some.rest.now c.in-Ok.ensures.text (omega (arith, size, c.requires.small));
      fit = refl;
      named = contract_own c.args.head c.in-Some-target_in.target c.in-Some-name_in.function c.in_ok-callee.callee;
    }

pub check_contract_call-returns-clause-found : goal.check_contract_call-returns-clause-found
unfolding goes_op
check_contract_call-returns-clause-found t c = callee_found c.args.ctx.now c.args.scope.now.entries c.args.args.now c.args.span c.requires.enough c.in-Some.first.now c.in-Some.second.now c.in-Some.rest.now c.in-Some.ensures.some c.in-Some-target_in.principal c.in-Some-target_in.ensures.literal c.in-Some-another_at.ensures.indexed c.in-Some-another_at.contract.now c.in-Some-another_at.ensures.found c.in-Some-name_in.function c.in-Some-name_in.ensures.some c.in-Some-callable.f.now c.in-Some-callable.ensures c.has_as_many.result c.has_as_many.ensures c.if-not-has_as_many.false c.in-Ok.parts c.on_callee-concluded.result c.finish.result c.in-Ok.ensures.found (subst (λ (cs : List Checked). JudgesCallee c.in-Some-callable.f.now cs c.on_callee-concluded.result) c.deref.ensures.value c.on_callee-concluded.ensures) (λ G shows. c.finish.ensures.found G refl)

-- ---- names and literals that are within the limits

-- ---- the expressions of pairs

-- ---- tuples

-- ---- a greatest length

pub check_head-returns-in-AsMaxLen-clause-found : goal.check_head-returns-in-AsMaxLen-clause-found
check_head-returns-in-AsMaxLen-clause-found t c = subst (λ (h : Head). ChecksHead c.args.ctx.now h c.args.scope.now.entries c.args.args.now c.args.span c.check_max_len.result) c.in-AsMaxLen.ensures c.check_max_len.ensures.found

pub check_max_len-returns-in_default-uint_at-clause-found : goal.check_max_len-returns-in_default-uint_at-clause-found
check_max_len-returns-in_default-uint_at-clause-found t c = max_odd c.args.ctx.now c.args.scope.now.entries c.args.args.now c.args.span c.requires.enough c.in-Some.item.now c.in-Some.second.now c.broken.result c.in-Some.ensures.some c.in_default-uint_at.ensures.none c.broken.ensures

pub check_max_len-returns-in-Err-clause-found : goal.check_max_len-returns-in-Err-clause-found
check_max_len-returns-in-Err-clause-found t c = max_fails c.args.ctx.now c.args.scope.now.entries c.args.args.now c.args.span c.requires.enough c.in-Some.item.now c.in-Some-uint_at.most c.in-Some-uint_at.at (c.in-Some.ensures.some ∙ ap (λ (d : Tree). c.in-Some.item.now ∷ d ∷ []) c.in-Some-uint_at.ensures.some) c.in-Err.fault c.in-Err.ensures.found

pub check_max_len-finish-requires : goal.check_max_len-finish-requires
check_max_len-finish-requires t c =
    let one : length c.in_ok-parts.parts.items ≡ 1 = ap length c.in_ok-parts.ensures in
    record { few = omega (arith, one); fit = ap (λ (n : ℕ). n == 1) one; named = max_own c.args.head c.in-Some-uint_at.most c.in-Some-uint_at.at }

pub check_max_len-returns-clause-found : goal.check_max_len-returns-clause-found
unfolding goes_op
check_max_len-returns-clause-found t c = max_found c.args.ctx.now c.args.scope.now.entries c.args.args.now c.args.span c.requires.enough c.in-Some.item.now c.in-Some-uint_at.most c.in-Some-uint_at.at (c.in-Some.ensures.some ∙ ap (λ (d : Tree). c.in-Some.item.now ∷ d ∷ []) c.in-Some-uint_at.ensures.some) c.in-Ok.found c.in_ok-parts.parts.items c.on_max_len-concluded.result c.finish.result c.in-Ok.ensures.text c.in_ok-parts.ensures c.in-Ok.ensures.found (rw c.deref.ensures.value at c.on_max_len-concluded.ensures) (λ G shows. c.finish.ensures.found G refl)

pub check_each-check_expr-requires : goal.check_each-check_expr-requires
check_each-check_expr-requires t c =
    let less : tree_size c.item-item.result.now < forest_size (forest (refs c.args.items.now)) = part_less (refs c.args.items.now) c.loop-item.item-index c.item-item.result.now (ref_less (λ (r : Bor Tree). r.now) c.args.items.now c.loop-item.item-index c.loop-item-test.true) (ref_at (λ (r : Bor Tree). r.now) c.args.items.now c.loop-item.item-index c.item-item.result c.loop-item-test.true (sym c.item-item.is)) in
    (omega (arith, less, c.decreases), (omega (arith, less, c.requires.small), part_fits (refs c.args.items.now) c.loop-item.item-index c.item-item.result.now (ref_less (λ (r : Bor Tree). r.now) c.args.items.now c.loop-item.item-index c.loop-item-test.true) (ref_at (λ (r : Bor Tree). r.now) c.args.items.now c.loop-item.item-index c.item-item.result c.loop-item-test.true (sym c.item-item.is)) c.requires.fits))

pub check_each-returns-in-Err-clause-found : goal.check_each-returns-in-Err-clause-found
check_each-returns-in-Err-clause-found t c = parts_stop c.args.ctx.now c.args.scope.now.entries c.loop-item.scope.entries (refs c.args.items.now) c.loop-item.item-index c.item-item.result.now c.loop-item.founds.items c.in-Err.fault (ref_less (λ (r : Bor Tree). r.now) c.args.items.now c.loop-item.item-index c.loop-item-test.true) (ref_at (λ (r : Bor Tree). r.now) c.args.items.now c.loop-item.item-index c.item-item.result c.loop-item-test.true (sym c.item-item.is)) c.loop-item.invariant.kept c.in-Err.ensures.found c.loop-item.invariant.found

pub check_each-loop-item-preserved : goal.check_each-loop-item-preserved
check_each-loop-item-preserved t c = record {
  found = parts_turn c.args.ctx.now c.args.scope.now.entries c.loop-item.scope.entries (refs c.args.items.now) c.loop-item.item-index c.item-item.result.now c.loop-item.founds.items c.push.new.founds.items c.in-Ok.found (ref_less (λ (r : Bor Tree). r.now) c.args.items.now c.loop-item.item-index c.loop-item-test.true) (ref_at (λ (r : Bor Tree). r.now) c.args.items.now c.loop-item.item-index c.item-item.result c.loop-item-test.true (sym c.item-item.is)) c.loop-item.invariant.kept c.in-Ok.ensures.text c.in-Ok.ensures.found c.in_ok-push-in-Ok.ensures c.loop-item.invariant.found;
  text = texts_turn (refs c.args.items.now) c.loop-item.item-index c.item-item.result.now c.loop-item.founds.items c.push.new.founds.items c.in-Ok.found (ref_less (λ (r : Bor Tree). r.now) c.args.items.now c.loop-item.item-index c.loop-item-test.true) (ref_at (λ (r : Bor Tree). r.now) c.args.items.now c.loop-item.item-index c.item-item.result c.loop-item-test.true (sym c.item-item.is)) c.in-Ok.ensures.text c.in_ok-push-in-Ok.ensures c.loop-item.invariant.text;
  kept = c.in-Ok.ensures.kept ∙ c.loop-item.invariant.kept;
}

pub check_each-returns-clause-found : goal.check_each-returns-clause-found
check_each-returns-clause-found t c = parts_end c.args.ctx.now c.args.scope.now.entries (refs c.args.items.now) c.loop-item.item-index c.loop-item.founds (omega (arith, ref_length (λ (r : Bor Tree). r.now) c.args.items.now, c.loop-item-test.false)) c.loop-item.invariant.found

pub check_each-returns-clause-text : goal.check_each-returns-clause-text
check_each-returns-clause-text t c = texts_end (refs c.args.items.now) c.loop-item.item-index (texts_of c.loop-item.founds.items) (omega (arith, ref_length (λ (r : Bor Tree). r.now) c.args.items.now, c.loop-item-test.false)) c.loop-item.invariant.text

-- ---- tuples

pub check_tuple-returns-then-branch-clause-found : goal.check_tuple-returns-then-branch-clause-found
check_tuple-returns-then-branch-clause-found t c = tuple_twice c.args.ctx.now c.args.scope.now.entries c.args.pairs.now c.args.span c.in_ok-stand_twice.field-0 c.broken.result (c.in_ok-stand_twice.ensures.twice ∙ ap stands_twice (c.deref.ensures.value ∙ c.in_ok-keys.ensures)) c.if-branch.true c.broken.ensures

pub check_tuple-check_each-requires : goal.check_tuple-check_each-requires
check_tuple-check_each-requires t c =
    let exprs : refs c.deref-2.result.now ≡ parts_in c.args.pairs.now = ap refs c.deref-2.ensures.value ∙ c.in_ok-exprs.ensures in
    let room : forest_size (forest (refs c.deref-2.result.now)) ≡ pairs_size (pairs c.args.pairs.now) = ap (λ (ts : List Tree). forest_size (forest ts)) exprs ∙ pairs_room c.args.pairs.now in
    (omega (arith, room, c.decreases), (omega (arith, room, c.requires.small), subst (λ (ts : List Tree). AllFit (forest ts)) (sym exprs) (pairs_fit c.args.pairs.now c.requires.fits)))

pub check_tuple-returns-in-Err-clause-found : goal.check_tuple-returns-in-Err-clause-found
check_tuple-returns-in-Err-clause-found t c =
    let exprs : refs c.deref-2.result.now ≡ parts_in c.args.pairs.now = ap refs c.deref-2.ensures.value ∙ c.in_ok-exprs.ensures in
    tuple_whole c.args.ctx.now c.args.scope.now.entries c.args.pairs.now c.args.span (Err c.in-Err.fault) (tuple_fails c.args.ctx.now sound_shape c.args.scope.now.entries c.args.pairs.now c.args.span refl (sym (c.in_ok-stand_twice.ensures.twice ∙ ap stands_twice (c.deref.ensures.value ∙ c.in_ok-keys.ensures)) ∙ c.if-branch.false) c.in-Err.fault
    (subst (λ (ts : List Tree). ChecksAll c.args.ctx.now (parts c.args.scope.now.entries ts) (forest_depth (forest ts) + 1) (Err c.in-Err.fault)) exprs c.in-Err.ensures.found))

pub check_tuple-on_tuple-concluded-requires : goal.check_tuple-on_tuple-concluded-requires
check_tuple-on_tuple-concluded-requires t c =
    let texts : texts_of c.in-Ok.parts.items ≡ parts_in c.args.pairs.now = c.in-Ok.ensures.text ∙ (ap refs c.deref-2.ensures.value ∙ c.in_ok-exprs.ensures) in
    let keys : c.deref-3.result.now ≡ keys_of c.args.pairs.now = c.deref-3.ensures.value ∙ c.in_ok-keys.ensures in
    let some : length c.deref-3.result.now ≡ length c.args.pairs.now = ap length keys ∙ keys_count c.args.pairs.now in
    let many : length c.deref-4.result.now ≡ length c.args.pairs.now = ap length c.deref-4.ensures.value ∙ parts_count c.in-Ok.parts.items (parts_in c.args.pairs.now) texts ∙ (parts_as_many c.args.pairs.now ∙ keys_count c.args.pairs.now) in
    record {
      count = some ∙ sym many;
      some = omega (arith, some, pairs_some c.args.pairs.now c.requires.some);
      once = ap stands_twice keys ∙ (sym (c.in_ok-stand_twice.ensures.twice ∙ ap stands_twice (c.deref.ensures.value ∙ c.in_ok-keys.ensures)) ∙ c.if-branch.false);
    }

pub check_tuple-finish-requires : goal.check_tuple-finish-requires
check_tuple-finish-requires t c =
    let texts : texts_of c.in-Ok.parts.items ≡ parts_in c.args.pairs.now = c.in-Ok.ensures.text ∙ (ap refs c.deref-2.ensures.value ∙ c.in_ok-exprs.ensures) in
    let some : length c.in_ok-keys.keys.items ≡ length c.args.pairs.now = ap length c.in_ok-keys.ensures ∙ keys_count c.args.pairs.now in
    let many : length c.in-Ok.parts.items ≡ length c.args.pairs.now = parts_count c.in-Ok.parts.items (parts_in c.args.pairs.now) texts ∙ (parts_as_many c.args.pairs.now ∙ keys_count c.args.pairs.now) in
    record {
      few = few_parts c.in-Ok.parts.items (parts_in c.args.pairs.now) texts (omega (arith, pairs_room c.args.pairs.now, c.requires.small));
      fit = eq-eqb (length c.in-Ok.parts.items) (length c.in_ok-keys.keys.items) (many ∙ sym some);
      named = tuple_own c.in_ok-keys.keys c.deref.result.now c.in_ok-stand_twice.field-0 c.deref.ensures.value c.in_ok-stand_twice.ensures.once c.if-branch.false;
    }

pub check_tuple-returns-clause-found : goal.check_tuple-returns-clause-found
unfolding goes_op
check_tuple-returns-clause-found t c =
    let exprs : refs c.deref-2.result.now ≡ parts_in c.args.pairs.now = ap refs c.deref-2.ensures.value ∙ c.in_ok-exprs.ensures in
    tuple_whole c.args.ctx.now c.args.scope.now.entries c.args.pairs.now c.args.span c.finish.result (tuple_found c.args.ctx.now sound_shape c.args.scope.now.entries c.args.pairs.now c.args.span refl (sym (c.in_ok-stand_twice.ensures.twice ∙ ap stands_twice (c.deref.ensures.value ∙ c.in_ok-keys.ensures)) ∙ c.if-branch.false) c.in-Ok.parts c.on_tuple-concluded.result c.finish.result
    (subst (λ (ts : List Tree). ChecksAll c.args.ctx.now (parts c.args.scope.now.entries ts) (forest_depth (forest ts) + 1) (Ok c.in-Ok.parts)) exprs c.in-Ok.ensures.found)
    (subst (λ (cs : List Checked). ConcludesRow (tuple_row (keys_of c.args.pairs.now)) 0 cs c.on_tuple-concluded.result) c.deref-4.ensures.value (subst (λ (ks : List (List ℕ)). ConcludesRow (tuple_row ks) 0 c.deref-4.result.now c.on_tuple-concluded.result) (c.deref-3.ensures.value ∙ c.in_ok-keys.ensures) c.on_tuple-concluded.ensures))
    (λ G shows. c.finish.ensures.found G refl))

pub check_tuple-returns-clause-text : goal.check_tuple-returns-clause-text
check_tuple-returns-clause-text t c =
    let texts : texts_of c.in-Ok.parts.items ≡ parts_in c.args.pairs.now = c.in-Ok.ensures.text ∙ (ap refs c.deref-2.ensures.value ∙ c.in_ok-exprs.ensures) in
    text_by c.finish.result _ (TupleAt (pairs c.args.pairs.now) c.args.span) c.finish.ensures.text ((λ i. TupleAt (keyed (c.in_ok-keys.ensures i) (texts i)) c.args.span) ∙ ap (λ (ps : Pairs). TupleAt ps c.args.span) (keyed_back c.args.pairs.now))

pub check_expr-returns-in-Tuple-clause-found : goal.check_expr-returns-in-Tuple-clause-found
check_expr-returns-in-Tuple-clause-found t c = node_found c.args.ctx.now c.args.scope.now.entries c.e.inside.node (nodes.Tuple c.in-Tuple.pairs) c.e.inside.span c.args.e.now c.check_tuple.result c.e.view_is c.in-Tuple.is (subst (λ (ps : List (List ℕ × Tree)). Checks c.args.ctx.now c.args.scope.now.entries (TupleAt (pairs ps) c.e.inside.span) c.check_tuple.result) c.deref-in-Tuple.ensures.value c.check_tuple.ensures.found)

pub check_expr-check_tuple-requires : goal.check_expr-check_tuple-requires
check_expr-check_tuple-requires t c =
    let tree : TupleAt (pairs c.deref-in-Tuple.result.now) c.e.inside.span ≡ c.args.e.now = ap (λ (ps : List (List ℕ × Tree)). TupleAt (pairs ps) c.e.inside.span) c.deref-in-Tuple.ensures.value ∙ (ap (λ (n : Node). tree_of n c.e.inside.span) (sym c.in-Tuple.is) ∙ c.e.view_is) in
    let size : pairs_size (pairs c.deref-in-Tuple.result.now) + 1 ≡ tree_size c.args.e.now = ap tree_size tree in
    let fits : Fits (TupleAt (pairs c.deref-in-Tuple.result.now) c.e.inside.span) = subst Fits (sym tree) c.requires.fits in
    (omega (arith, size, c.decreases), (omega (arith, size, c.requires.small), (fits.0, fits.1)))

pub check_expr-returns-in-Buff-clause-found : goal.check_expr-returns-in-Buff-clause-found
check_expr-returns-in-Buff-clause-found t c = node_found c.args.ctx.now c.args.scope.now.entries c.e.inside.node (nodes.Buff c.in-Buff.bytes) c.e.inside.span c.args.e.now c.buff.result c.e.view_is c.in-Buff.is (leaf_ruled c.args.ctx.now c.args.scope.now.entries (Bytes c.in-Buff.bytes.items) c.e.inside.span Literal (made (BuffType (length c.in-Buff.bytes.items))) c.buff.result (λ G shows. refl) (subst (λ (xs : List ℕ). RuledAs (made (BuffType (length xs))) c.e.inside.span c.buff.result) c.deref.ensures.value c.buff.ensures.found))

pub check_expr-returns-in-Ascii-clause-found : goal.check_expr-returns-in-Ascii-clause-found
check_expr-returns-in-Ascii-clause-found t c = node_found c.args.ctx.now c.args.scope.now.entries c.e.inside.node (nodes.Ascii c.in-Ascii.text) c.e.inside.span c.args.e.now c.ascii.result c.e.view_is c.in-Ascii.is (leaf_ruled c.args.ctx.now c.args.scope.now.entries (Ascii c.in-Ascii.text.items) c.e.inside.span Literal (made (AsciiType (length c.in-Ascii.text.items))) c.ascii.result (λ G shows. refl) (subst (λ (xs : List ℕ). RuledAs (made (AsciiType (length xs))) c.e.inside.span c.ascii.result) c.deref-in-Ascii.ensures.value c.ascii.ensures.found))

pub check_expr-returns-in-Utf8-clause-found : goal.check_expr-returns-in-Utf8-clause-found
check_expr-returns-in-Utf8-clause-found t c = node_found c.args.ctx.now c.args.scope.now.entries c.e.inside.node (nodes.Utf8 c.in-Utf8.text) c.e.inside.span c.args.e.now c.utf8-2.result c.e.view_is c.in-Utf8.is (leaf_ruled c.args.ctx.now c.args.scope.now.entries (Unicode c.in-Utf8.text.items) c.e.inside.span Literal (made (Utf8Type (length c.in-Utf8.text.items))) c.utf8-2.result (λ G shows. refl) (subst (λ (xs : List ℕ). RuledAs (made (Utf8Type (length xs))) c.e.inside.span c.utf8-2.result) c.deref-in-Utf8.ensures.value c.utf8-2.ensures.found))

pub check_max_len-returns-clause-text : goal.check_max_len-returns-clause-text
check_max_len-returns-clause-text t c = text_by c.finish.result _ (headed (codes "as-max-len?") c.args.head c.args.args.now c.args.span) c.finish.ensures.text (max_text c.args.ctx.now c.args.scope.now.entries c.args.args.now c.args.span c.requires.enough c.in-Some.item.now c.in-Some-uint_at.most c.in-Some-uint_at.at (c.in-Some.ensures.some ∙ ap (λ (d : Tree). c.in-Some.item.now ∷ d ∷ []) c.in-Some-uint_at.ensures.some) c.args.head c.args.span (texts_of c.in_ok-parts.parts.items) (ap texts_of c.in_ok-parts.ensures ∙ ap (λ (d : Tree). d ∷ []) c.in-Ok.ensures.text))

-- ---- match

pub check_branch-returns-in-Err-clause-found : goal.check_branch-returns-in-Err-clause-found
check_branch-returns-in-Err-clause-found t c = subst (λ (N : Names). Checks c.args.ctx.now N c.args.e.now (Err c.in-Err.fault)) c.in_ok-bind.ensures c.in-Err.ensures.found

pub check_branch-returns-clause-found : goal.check_branch-returns-clause-found
check_branch-returns-clause-found t c = subst (λ (N : Names). Checks c.args.ctx.now N c.args.e.now (Ok c.in-Ok.found)) c.in_ok-bind.ensures c.in-Ok.ensures.found

pub check_branch-returns-clause-kept : goal.check_branch-returns-clause-kept
check_branch-returns-clause-kept t c = unbound c.args.scope.now.entries c.check_expr.new.scope.entries c.unbind.new.scope.entries c.count-bound.result c.args.name c.args.ty c.unbind.ensures c.count-bound.ensures (c.in-Ok.ensures.kept ∙ c.in_ok-bind.ensures)

pub check_optional-returns-in-Err-clause-found : goal.check_optional-returns-in-Err-clause-found
check_optional-returns-in-Err-clause-found t c = optional_input_fails c.args.ctx.now c.args.scope.now.entries c.args.input.now c.args.part c.args.some.now c.args.none.now c.args.span false (sym c.requires.free) refl c.in-Err.fault c.in-Err.ensures.found

pub check_optional-returns-in_default-clause-found : goal.check_optional-returns-in_default-clause-found
check_optional-returns-in_default-clause-found t c = optional_stops c.args.ctx.now c.args.scope.now.entries c.args.input.now c.args.part c.args.some.now c.args.none.now c.args.span c.requires.free c.in-Ok.found c.in-Ok.ensures.text c.in-Ok.ensures.found c.refusal.result c.check_expr-in_default.result (sym c.in_default.is ∙ c.in_ok-ty.ensures) (subst (λ (N : Names). Checks c.args.ctx.now N c.args.none.now c.check_expr-in_default.result) c.in-Ok.ensures.kept c.check_expr-in_default.ensures.found) c.check_expr-in_default.ensures.text c.refusal.ensures

pub check_optional-check_cases-requires : goal.check_optional-check_cases-requires
check_optional-check_cases-requires t c = (omega (arith, c.decreases), (omega (arith, c.requires.small), (c.requires.second, (c.requires.third, subst (λ (N : Names). named_in c.args.part.name N ≡ None) (sym c.in-Ok.ensures.kept) (not_taken c.args.ctx.now c.args.scope.now.entries c.args.part.name c.requires.free)))))

pub check_optional-returns-in-Err-check_cases-clause-found : goal.check_optional-returns-in-Err-check_cases-clause-found
check_optional-returns-in-Err-check_cases-clause-found t c = optional_fails c.args.ctx.now c.args.scope.now.entries c.args.input.now c.args.part c.args.some.now c.args.none.now c.args.span c.requires.free c.in-Ok.found c.in-Ok.ensures.text c.in-Ok.ensures.found c.in-Some.ty (sym c.in-Some.is ∙ c.in_ok-ty.ensures) c.in_ok-parts.parts.items c.check_cases.new.founds.items c.in-Err-check_cases.fault (subst (λ (N : Names). AddsTwo c.args.ctx.now (bind c.args.part.name c.in-Some.ty N) c.args.some.now N c.args.none.now c.in_ok-parts.parts.items c.check_cases.new.founds.items (Err c.in-Err-check_cases.fault)) c.in-Ok.ensures.kept c.in-Err-check_cases.ensures.found)

pub check_optional-finish-requires : goal.check_optional-finish-requires
check_optional-finish-requires t c =
    let cases = c.in-Ok-check_cases.ensures.found in
    let three = all_three c.args.ctx.now (bind c.args.part.name c.in-Some.ty c.check_expr.new.scope.entries) c.args.some.now c.check_expr.new.scope.entries c.args.none.now c.args.input.now c.in-Ok.found c.in_ok-parts.parts.items c.check_cases.new.founds.items c.in-Ok-check_cases.field-0 c.in-Ok.ensures.text c.in_ok-parts.ensures c.in-Ok-check_cases.ensures.found in
    record {
      few = three_few c.check_cases.new.founds.items c.in-Ok.found cases.0 cases.1 three;
      fit = three_fit c.check_cases.new.founds.items c.in-Ok.found cases.0 cases.1 three;
      named = optional_own c.args.head c.args.part;
    }

pub check_optional-returns-clause-found : goal.check_optional-returns-clause-found
unfolding goes_op
check_optional-returns-clause-found t c =
    let cases = subst (λ (N : Names). AddsTwo c.args.ctx.now (bind c.args.part.name c.in-Some.ty N) c.args.some.now N c.args.none.now c.in_ok-parts.parts.items c.check_cases.new.founds.items (Ok c.in-Ok-check_cases.field-0)) c.in-Ok.ensures.kept c.in-Ok-check_cases.ensures.found in
    optional_ends c.args.ctx.now c.args.scope.now.entries c.args.input.now c.args.part c.args.some.now c.args.none.now c.args.span c.requires.free c.in-Ok.found c.in-Ok.ensures.text c.in-Ok.ensures.found c.in-Some.ty (sym c.in-Some.is ∙ c.in_ok-ty.ensures) c.in_ok-parts.parts.items c.check_cases.new.founds.items c.in-Ok-check_cases.field-0 c.in_ok-parts.ensures cases c.on_optional-concluded.result c.finish.result (rw c.deref.ensures.value at c.on_optional-concluded.ensures) (λ G shows. c.finish.ensures.found G refl)

pub check_optional-returns-clause-text : goal.check_optional-returns-clause-text
check_optional-returns-clause-text t c = text_by c.finish.result _ (headed (codes "match") c.args.head (c.args.input.now ∷ word c.args.part ∷ c.args.some.now ∷ c.args.none.now ∷ []) c.args.span) c.finish.ensures.text (optional_text c.args.head c.args.span c.args.part c.args.input.now c.args.some.now c.args.none.now (texts_of c.check_cases.new.founds.items) (all_texts c.args.ctx.now (bind c.args.part.name c.in-Some.ty c.check_expr.new.scope.entries) c.args.some.now c.check_expr.new.scope.entries c.args.none.now c.args.input.now c.in-Ok.found c.in_ok-parts.parts.items c.check_cases.new.founds.items c.in-Ok-check_cases.field-0 c.in-Ok.ensures.text c.in_ok-parts.ensures c.in-Ok-check_cases.ensures.found))

pub check_cases-check_branch-requires : goal.check_cases-check_branch-requires
check_cases-check_branch-requires t c = (omega (arith, c.decreases), (omega (arith, c.requires.small), (c.requires.first, c.requires.free)))

pub check_cases-returns-in-Err-clause-found : goal.check_cases-returns-in-Err-clause-found
check_cases-returns-in-Err-clause-found t c = first_breaks _ _ _ _ _ c.args.founds.now.items c.args.founds.now.items c.in-Err.fault c.in-Err.ensures.found

pub check_cases-returns-in-Err-check_expr-clause-found : goal.check_cases-returns-in-Err-check_expr-clause-found
check_cases-returns-in-Err-check_expr-clause-found t c = second_breaks _ _ _ _ _ c.args.founds.now.items c.args.founds.now.items c.in-Ok.yes c.in-Err-check_expr.fault c.in-Ok.ensures.text c.in-Ok.ensures.found (subst (λ (N : Names). Checks c.args.ctx.now N c.args.none.now (Err c.in-Err-check_expr.fault)) c.in-Ok.ensures.kept c.in-Err-check_expr.ensures.found)

pub check_cases-returns-clause-found : goal.check_cases-returns-clause-found
check_cases-returns-clause-found t c = (c.in-Ok.yes, c.in-Ok-check_expr.no, two_more _ _ _ _ _ c.in_ok-push-in-Ok.ensures c.in_ok-push-in-Ok-check_expr.ensures, c.in-Ok.ensures.text, c.in-Ok.ensures.found, c.in-Ok-check_expr.ensures.text, subst (λ (N : Names). Checks c.args.ctx.now N c.args.none.now (Ok c.in-Ok-check_expr.no)) c.in-Ok.ensures.kept c.in-Ok-check_expr.ensures.found)

pub check_response-returns-in-Err-clause-found : goal.check_response-returns-in-Err-clause-found
check_response-returns-in-Err-clause-found t c = response_input_fails c.args.ctx.now c.args.scope.now.entries c.args.input.now c.args.good c.args.first.now c.args.bad c.args.second.now c.args.span false (sym c.requires.free) refl c.in-Err.fault c.in-Err.ensures.found

pub check_response-returns-in_default-clause-found : goal.check_response-returns-in_default-clause-found
check_response-returns-in_default-clause-found t c = response_odd c.args.ctx.now c.args.scope.now.entries c.args.input.now c.args.good c.args.first.now c.args.bad c.args.second.now c.args.span false (sym c.requires.free) refl c.in-Ok.found c.in-Ok.ensures.text c.in-Ok.ensures.found c.broken.result (sym c.in_default.is ∙ c.in_ok-ok.ensures) c.broken.ensures

pub check_response-check_both-requires : goal.check_response-check_both-requires
check_response-check_both-requires t c = (
  omega (arith, c.decreases),
  (
    omega (arith, c.requires.small),
    (
      c.requires.two,
      (
        c.requires.three,
        (
          subst (λ (N : Names). named_in c.args.good.name N ≡ None) (sym c.in-Ok.ensures.kept) (first_free c.args.ctx.now c.args.scope.now.entries c.args.good.name c.args.bad.name c.requires.free),
          subst (λ (N : Names). named_in c.args.bad.name N ≡ None) (sym c.in-Ok.ensures.kept) (second_free c.args.ctx.now c.args.scope.now.entries c.args.good.name c.args.bad.name c.requires.free),
        ),
      ),
    ),
  ),
)

pub check_response-returns-in-Err-check_both-clause-found : goal.check_response-returns-in-Err-check_both-clause-found
check_response-returns-in-Err-check_both-clause-found t c = response_fails c.args.ctx.now c.args.scope.now.entries c.args.input.now c.args.good c.args.first.now c.args.bad c.args.second.now c.args.span c.requires.free c.in-Ok.found c.in-Ok.ensures.text c.in-Ok.ensures.found c.in-Some.ok c.in-Some.err (sym c.in-Some.is ∙ c.in_ok-ok.ensures) c.in_ok-parts.parts.items c.check_both.new.founds.items c.in-Err-check_both.fault (subst (λ (N : Names). AddsTwo c.args.ctx.now (bind c.args.good.name c.in-Some.ok N) c.args.first.now (bind c.args.bad.name c.in-Some.err N) c.args.second.now c.in_ok-parts.parts.items c.check_both.new.founds.items (Err c.in-Err-check_both.fault)) c.in-Ok.ensures.kept c.in-Err-check_both.ensures.found)

pub check_response-finish-requires : goal.check_response-finish-requires
check_response-finish-requires t c =
    let cases = c.in-Ok-check_both.ensures.found in
    let three = all_three c.args.ctx.now (bind c.args.good.name c.in-Some.ok c.check_expr.new.scope.entries) c.args.first.now (bind c.args.bad.name c.in-Some.err c.check_expr.new.scope.entries) c.args.second.now c.args.input.now c.in-Ok.found c.in_ok-parts.parts.items c.check_both.new.founds.items c.in-Ok-check_both.field-0 c.in-Ok.ensures.text c.in_ok-parts.ensures c.in-Ok-check_both.ensures.found in
    record {
      few = three_few c.check_both.new.founds.items c.in-Ok.found cases.0 cases.1 three;
      fit = three_fit c.check_both.new.founds.items c.in-Ok.found cases.0 cases.1 three;
      named = response_own c.args.head c.args.good c.args.bad;
    }

pub check_response-returns-clause-found : goal.check_response-returns-clause-found
unfolding goes_op
check_response-returns-clause-found t c =
    let cases = subst (λ (N : Names). AddsTwo c.args.ctx.now (bind c.args.good.name c.in-Some.ok N) c.args.first.now (bind c.args.bad.name c.in-Some.err N) c.args.second.now c.in_ok-parts.parts.items c.check_both.new.founds.items (Ok c.in-Ok-check_both.field-0)) c.in-Ok.ensures.kept c.in-Ok-check_both.ensures.found in
    response_ends c.args.ctx.now c.args.scope.now.entries c.args.input.now c.args.good c.args.first.now c.args.bad c.args.second.now c.args.span c.requires.free c.in-Ok.found c.in-Ok.ensures.text c.in-Ok.ensures.found c.in-Some.ok c.in-Some.err (sym c.in-Some.is ∙ c.in_ok-ok.ensures) c.in_ok-parts.parts.items c.check_both.new.founds.items c.in-Ok-check_both.field-0 c.in_ok-parts.ensures cases c.on_response-concluded.result c.finish.result (rw c.deref.ensures.value at c.on_response-concluded.ensures) (λ G shows. c.finish.ensures.found G refl)

pub check_response-returns-clause-text : goal.check_response-returns-clause-text
check_response-returns-clause-text t c = text_by c.finish.result _ (headed (codes "match") c.args.head (c.args.input.now ∷ word c.args.good ∷ c.args.first.now ∷ word c.args.bad ∷ c.args.second.now ∷ []) c.args.span) c.finish.ensures.text (response_text c.args.head c.args.span c.args.good c.args.bad c.args.input.now c.args.first.now c.args.second.now (texts_of c.check_both.new.founds.items) (all_texts c.args.ctx.now (bind c.args.good.name c.in-Some.ok c.check_expr.new.scope.entries) c.args.first.now (bind c.args.bad.name c.in-Some.err c.check_expr.new.scope.entries) c.args.second.now c.args.input.now c.in-Ok.found c.in_ok-parts.parts.items c.check_both.new.founds.items c.in-Ok-check_both.field-0 c.in-Ok.ensures.text c.in_ok-parts.ensures c.in-Ok-check_both.ensures.found))

pub check_both-check_branch-requires : goal.check_both-check_branch-requires
check_both-check_branch-requires t c = (omega (arith, c.decreases), (omega (arith, c.requires.small), (c.requires.one, c.requires.good_free)))

pub check_both-returns-in-Err-clause-found : goal.check_both-returns-in-Err-clause-found
check_both-returns-in-Err-clause-found t c = first_breaks _ _ _ _ _ c.args.founds.now.items c.args.founds.now.items c.in-Err.fault c.in-Err.ensures.found

pub check_both-check_branch-requires-2 : goal.check_both-check_branch-requires-2
check_both-check_branch-requires-2 t c = (omega (arith, c.decreases), (omega (arith, c.requires.small), (c.requires.two, subst (λ (N : Names). named_in c.args.bad N ≡ None) (sym c.in-Ok.ensures.kept) c.requires.bad_free)))

pub check_both-returns-in-Err-check_branch-clause-found : goal.check_both-returns-in-Err-check_branch-clause-found
check_both-returns-in-Err-check_branch-clause-found t c = second_breaks _ _ _ _ _ c.args.founds.now.items c.args.founds.now.items c.in-Ok.yes c.in-Err-check_branch.fault c.in-Ok.ensures.text c.in-Ok.ensures.found (subst (λ (N : Names). Checks c.args.ctx.now (bind c.args.bad c.args.err N) c.args.second.now (Err c.in-Err-check_branch.fault)) c.in-Ok.ensures.kept c.in-Err-check_branch.ensures.found)

pub check_both-returns-clause-found : goal.check_both-returns-clause-found
check_both-returns-clause-found t c = (c.in-Ok.yes, c.in-Ok-check_branch.no, two_more _ _ _ _ _ c.in_ok-push-in-Ok.ensures c.in_ok-push-in-Ok-check_branch.ensures, c.in-Ok.ensures.text, c.in-Ok.ensures.found, c.in-Ok-check_branch.ensures.text, subst (λ (N : Names). Checks c.args.ctx.now (bind c.args.bad c.args.err N) c.args.second.now (Ok c.in-Ok-check_branch.no)) c.in-Ok.ensures.kept c.in-Ok-check_branch.ensures.found)

pub check_match-returns-in_default-name_in-clause-found : goal.check_match-returns-in_default-name_in-clause-found
check_match-returns-in_default-name_in-clause-found t c = match_whole c.args.ctx.now c.args.scope.now.entries c.args.args.now (c.in-Some.input.now ∷ c.in-Some.name.now ∷ c.in-Some.some.now ∷ c.in-Some.none.now ∷ []) c.args.span (Err c.broken.result) c.in-Some.ensures.some (optional_no_name c.args.ctx.now c.args.scope.now.entries c.args.span BadBinding c.broken.result c.broken.ensures c.in-Some.input.now c.in-Some.name.now c.in-Some.some.now c.in-Some.none.now c.in_default-name_in.ensures.none refl)

pub check_match-returns-then-is_taken-clause-found : goal.check_match-returns-then-is_taken-clause-found
check_match-returns-then-is_taken-clause-found t c = match_whole c.args.ctx.now c.args.scope.now.entries c.args.args.now (c.in-Some.input.now ∷ word c.in-Some-name_in.part ∷ c.in-Some.some.now ∷ c.in-Some.none.now ∷ []) c.args.span (Err c.broken-then-is_taken.result) (c.in-Some.ensures.some ∙ ap (λ (d : Tree). c.in-Some.input.now ∷ d ∷ c.in-Some.some.now ∷ c.in-Some.none.now ∷ []) c.in-Some-name_in.ensures.some) (optional_taken c.args.ctx.now c.args.scope.now.entries c.in-Some.input.now c.in-Some-name_in.part c.in-Some.some.now c.in-Some.none.now c.args.span c.is_taken.result c.broken-then-is_taken.result c.is_taken.ensures c.if-is_taken.true c.broken-then-is_taken.ensures)

pub check_match-check_optional-requires : goal.check_match-check_optional-requires
check_match-check_optional-requires t c =
    let size = four_size c.args.args.now c.in-Some.input.now c.in-Some.name.now c.in-Some.some.now c.in-Some.none.now c.in-Some.ensures.some in
    let fit = four_fit c.args.args.now c.in-Some.input.now c.in-Some.name.now c.in-Some.some.now c.in-Some.none.now c.in-Some.ensures.some c.requires.fits in
    (omega (arith, size, c.decreases), (omega (arith, size, c.requires.small), (fit.0, (fit.1, (fit.2, sym c.is_taken.ensures ∙ c.if-is_taken.false)))))

pub check_match-returns-in-Some-clause-found : goal.check_match-returns-in-Some-clause-found
check_match-returns-in-Some-clause-found t c = match_whole c.args.ctx.now c.args.scope.now.entries c.args.args.now (c.in-Some.input.now ∷ word c.in-Some-name_in.part ∷ c.in-Some.some.now ∷ c.in-Some.none.now ∷ []) c.args.span c.check_optional.result (c.in-Some.ensures.some ∙ ap (λ (d : Tree). c.in-Some.input.now ∷ d ∷ c.in-Some.some.now ∷ c.in-Some.none.now ∷ []) c.in-Some-name_in.ensures.some) c.check_optional.ensures.found

pub check_match-returns-in-Some-clause-text : goal.check_match-returns-in-Some-clause-text
check_match-returns-in-Some-clause-text t c = text_by c.check_optional.result _ (headed (codes "match") c.args.head c.args.args.now c.args.span) c.check_optional.ensures.text (ap (λ (ts : List Tree). headed (codes "match") c.args.head ts c.args.span) (sym (c.in-Some.ensures.some ∙ ap (λ (d : Tree). c.in-Some.input.now ∷ d ∷ c.in-Some.some.now ∷ c.in-Some.none.now ∷ []) c.in-Some-name_in.ensures.some)))

pub check_match-unreachable-requires : goal.check_match-unreachable-requires
check_match-unreachable-requires t c = four_or_five (length c.args.args.now) c.in_default.ensures.none c.in_default-five.ensures.none c.requires.enough

pub check_match-returns-in_default-names_in-clause-found : goal.check_match-returns-in_default-names_in-clause-found
check_match-returns-in_default-names_in-clause-found t c = match_whole c.args.ctx.now c.args.scope.now.entries c.args.args.now (c.in-Some-five.input.now ∷ c.in-Some-five.first.now ∷ c.in-Some-five.yes.now ∷ c.in-Some-five.second.now ∷ c.in-Some-five.no.now ∷ []) c.args.span (Err c.broken-in_default-names_in.result) c.in-Some-five.ensures.some (response_no_name c.args.ctx.now c.args.scope.now.entries c.args.span c.odd_rule.result c.broken-in_default-names_in.result c.broken-in_default-names_in.ensures c.in-Some-five.input.now c.in-Some-five.first.now c.in-Some-five.yes.now c.in-Some-five.second.now c.in-Some-five.no.now c.in_default-names_in.ensures.none c.odd_rule.ensures)

pub check_match-returns-then-is_pair_taken-clause-found : goal.check_match-returns-then-is_pair_taken-clause-found
check_match-returns-then-is_pair_taken-clause-found t c = match_whole c.args.ctx.now c.args.scope.now.entries c.args.args.now (c.in-Some-five.input.now ∷ word c.in-Some-names_in.good ∷ c.in-Some-five.yes.now ∷ word c.in-Some-names_in.bad ∷ c.in-Some-five.no.now ∷ []) c.args.span (Err c.broken-then-is_pair_taken.result) (c.in-Some-five.ensures.some ∙ (λ j. c.in-Some-five.input.now ∷ c.in-Some-names_in.ensures.first j ∷ c.in-Some-five.yes.now ∷ c.in-Some-names_in.ensures.second j ∷ c.in-Some-five.no.now ∷ [])) (response_taken c.args.ctx.now c.args.scope.now.entries c.in-Some-five.input.now c.in-Some-names_in.good c.in-Some-five.yes.now c.in-Some-names_in.bad c.in-Some-five.no.now c.args.span c.is_pair_taken.result c.broken-then-is_pair_taken.result c.is_pair_taken.ensures c.if-is_pair_taken.true c.broken-then-is_pair_taken.ensures)

pub check_match-check_response-requires : goal.check_match-check_response-requires
check_match-check_response-requires t c =
    let size = five_size c.args.args.now c.in-Some-five.input.now c.in-Some-five.first.now c.in-Some-five.yes.now c.in-Some-five.second.now c.in-Some-five.no.now c.in-Some-five.ensures.some in
    let fit = five_fit c.args.args.now c.in-Some-five.input.now c.in-Some-five.first.now c.in-Some-five.yes.now c.in-Some-five.second.now c.in-Some-five.no.now c.in-Some-five.ensures.some c.requires.fits in
    (omega (arith, size, c.decreases), (omega (arith, size, c.requires.small), (fit.0, (fit.1, (fit.2, sym c.is_pair_taken.ensures ∙ c.if-is_pair_taken.false)))))

pub check_match-returns-clause-found : goal.check_match-returns-clause-found
check_match-returns-clause-found t c = match_whole c.args.ctx.now c.args.scope.now.entries c.args.args.now (c.in-Some-five.input.now ∷ word c.in-Some-names_in.good ∷ c.in-Some-five.yes.now ∷ word c.in-Some-names_in.bad ∷ c.in-Some-five.no.now ∷ []) c.args.span c.check_response.result (c.in-Some-five.ensures.some ∙ (λ j. c.in-Some-five.input.now ∷ c.in-Some-names_in.ensures.first j ∷ c.in-Some-five.yes.now ∷ c.in-Some-names_in.ensures.second j ∷ c.in-Some-five.no.now ∷ [])) c.check_response.ensures.found

pub check_match-returns-clause-text : goal.check_match-returns-clause-text
check_match-returns-clause-text t c = text_by c.check_response.result _ (headed (codes "match") c.args.head c.args.args.now c.args.span) c.check_response.ensures.text (ap (λ (ts : List Tree). headed (codes "match") c.args.head ts c.args.span) (sym (c.in-Some-five.ensures.some ∙ (λ j. c.in-Some-five.input.now ∷ c.in-Some-names_in.ensures.first j ∷ c.in-Some-five.yes.now ∷ c.in-Some-names_in.ensures.second j ∷ c.in-Some-five.no.now ∷ []))))

pub check_head-returns-in-Match-clause-found : goal.check_head-returns-in-Match-clause-found
check_head-returns-in-Match-clause-found t c = subst (λ (h : Head). ChecksHead c.args.ctx.now h c.args.scope.now.entries c.args.args.now c.args.span c.check_match.result) c.in-Match.ensures c.check_match.ensures.found

-- ---- tuples in round brackets

pub check_head-returns-in-TupleOf-clause-found : goal.check_head-returns-in-TupleOf-clause-found
check_head-returns-in-TupleOf-clause-found t c = subst (λ (h : Head). ChecksHead c.args.ctx.now h c.args.scope.now.entries c.args.args.now c.args.span c.check_pairs.result) c.in-TupleOf.ensures c.check_pairs.ensures.found

pub check_pairs-returns-then-not-are_bindings-clause-found : goal.check_pairs-returns-then-not-are_bindings-clause-found
check_pairs-returns-then-not-are_bindings-clause-found t c = pairs_odd c.args.ctx.now c.args.scope.now.entries c.args.args.now c.args.span c.requires.enough c.are_bindings.result c.broken.result c.are_bindings.ensures c.if-not-are_bindings.true c.broken.ensures

pub check_pairs-returns-then-branch-clause-found : goal.check_pairs-returns-then-branch-clause-found
check_pairs-returns-then-branch-clause-found t c = pairs_twice c.args.ctx.now c.args.scope.now.entries c.args.args.now c.args.span c.requires.enough c.are_bindings.result c.are_bindings.ensures c.if-not-are_bindings.false c.in_ok-stand_twice.field-0 c.broken-then-branch.result (c.in_ok-stand_twice.ensures.twice ∙ ap stands_twice (c.deref.ensures.value ∙ c.in_ok-keys.ensures)) c.if-branch.true c.broken-then-branch.ensures

pub check_pairs-check_each-requires : goal.check_pairs-check_each-requires
check_pairs-check_each-requires t c =
    let exprs : refs c.deref-2.result.now ≡ exprs_of c.args.args.now = ap refs c.deref-2.ensures.value ∙ c.in_ok-exprs.ensures in
    let room : forest_size (forest (refs c.deref-2.result.now)) ≡ forest_size (forest (exprs_of c.args.args.now)) = ap (λ (ts : List Tree). forest_size (forest ts)) exprs in
    (omega (arith, room, bound_room c.args.args.now, c.decreases), (omega (arith, room, bound_room c.args.args.now, c.requires.small), subst (λ (ts : List Tree). AllFit (forest ts)) (sym exprs) (bound_fits c.args.args.now c.requires.fits)))

pub check_pairs-returns-in-Err-clause-found : goal.check_pairs-returns-in-Err-clause-found
check_pairs-returns-in-Err-clause-found t c =
    let exprs : refs c.deref-2.result.now ≡ exprs_of c.args.args.now = ap refs c.deref-2.ensures.value ∙ c.in_ok-exprs.ensures in
    pairs_fails c.args.ctx.now c.args.scope.now.entries c.args.args.now c.args.span c.requires.enough c.are_bindings.result c.are_bindings.ensures c.if-not-are_bindings.false (sym (c.in_ok-stand_twice.ensures.twice ∙ ap stands_twice (c.deref.ensures.value ∙ c.in_ok-keys.ensures)) ∙ c.if-branch.false) c.in-Err.fault (subst (λ (ts : List Tree). ChecksAll c.args.ctx.now (parts c.args.scope.now.entries ts) (forest_depth (forest ts) + 1) (Err c.in-Err.fault)) exprs c.in-Err.ensures.found)

pub check_pairs-on_tuple-concluded-requires : goal.check_pairs-on_tuple-concluded-requires
check_pairs-on_tuple-concluded-requires t c =
    let texts : texts_of c.in-Ok.parts.items ≡ exprs_of c.args.args.now = c.in-Ok.ensures.text ∙ (ap refs c.deref-2.ensures.value ∙ c.in_ok-exprs.ensures) in
    let keys : c.deref-3.result.now ≡ (keys_of (filter_map binding_of c.args.args.now)) = c.deref-3.ensures.value ∙ c.in_ok-keys.ensures in
    let some : length c.deref-3.result.now ≡ length c.args.args.now = ap length keys ∙ (sym (parts_as_many (filter_map binding_of c.args.args.now)) ∙ exprs_count c.args.args.now (sym c.are_bindings.ensures ∙ c.if-not-are_bindings.false)) in
    let many : length c.deref-4.result.now ≡ length c.args.args.now = ap length c.deref-4.ensures.value ∙ parts_count c.in-Ok.parts.items (exprs_of c.args.args.now) texts ∙ exprs_count c.args.args.now (sym c.are_bindings.ensures ∙ c.if-not-are_bindings.false) in
    record {
      count = some ∙ sym many;
      some = omega (arith, some, leb-true 1 (length c.args.args.now) c.requires.enough);
      once = ap stands_twice keys ∙ (sym (c.in_ok-stand_twice.ensures.twice ∙ ap stands_twice (c.deref.ensures.value ∙ c.in_ok-keys.ensures)) ∙ c.if-branch.false);
    }

pub check_pairs-finish-requires : goal.check_pairs-finish-requires
check_pairs-finish-requires t c =
    let texts : texts_of c.in-Ok.parts.items ≡ exprs_of c.args.args.now = c.in-Ok.ensures.text ∙ (ap refs c.deref-2.ensures.value ∙ c.in_ok-exprs.ensures) in
    let many : length c.in-Ok.parts.items ≡ length c.args.args.now = parts_count c.in-Ok.parts.items (exprs_of c.args.args.now) texts ∙ exprs_count c.args.args.now (sym c.are_bindings.ensures ∙ c.if-not-are_bindings.false) in
    record {
      few = few_parts c.in-Ok.parts.items (exprs_of c.args.args.now) texts (omega (arith, bound_room c.args.args.now, c.requires.small));
      fit = eq-eqb (length c.in-Ok.parts.items) (length c.in_ok-pairs.pairs.items) (many ∙ sym c.in_ok-pairs.ensures.count);
      named = tuple_of_own c.args.head c.in_ok-pairs.pairs c.args.args.now c.deref.result.now c.in_ok-stand_twice.field-0 (c.deref.ensures.value ∙ c.in_ok-keys.ensures) c.in_ok-pairs.ensures.text c.in_ok-pairs.ensures.count c.in_ok-stand_twice.ensures.once c.if-branch.false;
    }

pub check_pairs-returns-clause-found : goal.check_pairs-returns-clause-found
unfolding goes_op
check_pairs-returns-clause-found t c =
    let exprs : refs c.deref-2.result.now ≡ exprs_of c.args.args.now = ap refs c.deref-2.ensures.value ∙ c.in_ok-exprs.ensures in
    pairs_found c.args.ctx.now c.args.scope.now.entries c.args.args.now c.args.span c.requires.enough c.are_bindings.result c.are_bindings.ensures c.if-not-are_bindings.false (sym (c.in_ok-stand_twice.ensures.twice ∙ ap stands_twice (c.deref.ensures.value ∙ c.in_ok-keys.ensures)) ∙ c.if-branch.false) c.in-Ok.parts c.on_tuple-concluded.result c.finish.result
    (subst (λ (ts : List Tree). ChecksAll c.args.ctx.now (parts c.args.scope.now.entries ts) (forest_depth (forest ts) + 1) (Ok c.in-Ok.parts)) exprs c.in-Ok.ensures.found)
    (subst (λ (cs : List Checked). ConcludesRow (tuple_row (keys_of (filter_map binding_of c.args.args.now))) 0 cs c.on_tuple-concluded.result) c.deref-4.ensures.value (subst (λ (ks : List (List ℕ)). ConcludesRow (tuple_row ks) 0 c.deref-4.result.now c.on_tuple-concluded.result) (c.deref-3.ensures.value ∙ c.in_ok-keys.ensures) c.on_tuple-concluded.ensures))
    (λ G shows. c.finish.ensures.found G refl)

pub check_pairs-returns-clause-text : goal.check_pairs-returns-clause-text
check_pairs-returns-clause-text t c =
    let texts : texts_of c.in-Ok.parts.items ≡ exprs_of c.args.args.now = c.in-Ok.ensures.text ∙ (ap refs c.deref-2.ensures.value ∙ c.in_ok-exprs.ensures) in
    text_by c.finish.result _ (headed (codes "tuple") c.args.head c.args.args.now c.args.span) c.finish.ensures.text (ap (λ (ts : List Tree). headed (codes "tuple") c.args.head ts c.args.span) (ap (bound_items c.in_ok-pairs.pairs.items) texts ∙ c.in_ok-pairs.ensures.text))

-- ---- map, filter and fold

pub check_head-returns-in-Iterate-clause-found : goal.check_head-returns-in-Iterate-clause-found
check_head-returns-in-Iterate-clause-found t c = subst (λ (h : Head). ChecksHead c.args.ctx.now h c.args.scope.now.entries c.args.args.now c.args.span c.check_iteration.result) c.in-Iterate.ensures c.check_iteration.ensures.found

pub check_iteration-returns-in_default-use_at-clause-found : goal.check_iteration-returns-in_default-use_at-clause-found
check_iteration-returns-in_default-use_at-clause-found t c = not_applied c.args.ctx.now c.args.iteration c.args.scope.now.entries c.args.args.now c.args.span c.requires.enough c.in-Some.first.now c.in-Some.rest.now c.in-Some.ensures.some c.broken.result c.in_default-use_at.ensures.none c.broken.ensures

pub check_iteration-returns-then-not-takes_values-clause-found : goal.check_iteration-returns-then-not-takes_values-clause-found
check_iteration-returns-then-not-takes_values-clause-found t c = use_short c.args.ctx.now c.args.iteration c.args.scope.now.entries c.args.args.now c.args.span c.requires.enough c.in-Some.first.now c.in-Some.rest.now c.in-Some.ensures.some c.in-Some-use_at.used.usable c.in-Some-use_at.ensures.some c.takes_values.result c.broken-then-not-takes_values.result c.takes_values.ensures c.if-not-takes_values.true c.broken-then-not-takes_values.ensures

pub check_iteration-returns-in-Err-clause-found : goal.check_iteration-returns-in-Err-clause-found
check_iteration-returns-in-Err-clause-found t c = use_fails c.args.ctx.now c.args.iteration c.args.scope.now.entries c.args.args.now c.args.span c.requires.enough c.in-Some.first.now c.in-Some.rest.now c.in-Some.ensures.some c.in-Some-use_at.used.usable c.in-Some-use_at.ensures.some c.takes_values.result c.takes_values.ensures c.if-not-takes_values.false c.in-Err.fault c.in-Err.ensures.found

pub check_iteration-finish-requires : goal.check_iteration-finish-requires
check_iteration-finish-requires t c =
    let size : forest_size (forest c.args.args.now) ≡ forest_size (forest (c.in-Some.first.now ∷ c.in-Some.rest.now)) = ap (λ (ts : List Tree). forest_size (forest ts)) c.in-Some.ensures.some in
    record {
      few = few_parts c.in-Ok.parts.items c.in-Some.rest.now c.in-Ok.ensures.text (omega (arith, size, c.requires.small));
      fit = use_fits c.args.ctx.now c.args.iteration c.args.scope.now.entries c.args.args.now c.args.span c.requires.enough c.in-Some.first.now c.in-Some.rest.now c.in-Some.ensures.some c.in-Ok.parts.items c.args.head c.in-Some-use_at.used.applied c.in-Ok.ensures.text;
      named = use_own c.args.iteration c.args.head c.in-Some-use_at.used.applied c.in-Some-use_at.ensures.own;
    }

pub check_iteration-returns-clause-found : goal.check_iteration-returns-clause-found
check_iteration-returns-clause-found t c = use_found c.args.ctx.now c.args.iteration c.args.scope.now.entries c.args.args.now c.args.span c.requires.enough c.in-Some.first.now c.in-Some.rest.now c.in-Some.ensures.some c.in-Some-use_at.used.usable c.in-Some-use_at.ensures.some c.takes_values.result c.takes_values.ensures c.if-not-takes_values.false c.in-Ok.parts c.on_iteration-concluded.result c.finish.result c.in-Ok.ensures.found (subst (λ (cs : List Checked). Iterates (iteration_verdict c.args.iteration) c.in-Some-use_at.used.usable cs c.on_iteration-concluded.result) c.deref.ensures.value c.on_iteration-concluded.ensures) (λ G shows. c.finish.ensures.found G (use_goes G.version c.args.iteration c.args.head c.in-Some-use_at.used.applied (ap (λ (version : Version). goes_applied version c.in-Some-use_at.used.applied) shows.version ∙ c.in-Some-use_at.ensures.goes)))

-- ---- what calls ask for, and the texts of what they give

pub check_native-check_parts-requires : goal.check_native-check_parts-requires
check_native-check_parts-requires t c = (omega (arith, c.decreases), (c.requires.small, c.requires.fits))

pub check_call-check_parts-requires : goal.check_call-check_parts-requires
check_call-check_parts-requires t c = (omega (arith, c.decreases), (c.requires.small, c.requires.fits))

pub check_named-check_parts-requires : goal.check_named-check_parts-requires
check_named-check_parts-requires t c =
    let size : forest_size (forest c.args.args.now) ≡ forest_size (forest (c.in-Some.first.now ∷ c.in-Some.rest.now)) = ap (λ (ts : List Tree). forest_size (forest ts)) c.in-Some.ensures.some in
    (omega (arith, size, c.decreases), (omega (arith, size, c.requires.small), (subst (λ (ts : List Tree). AllFit (forest ts)) c.in-Some.ensures.some c.requires.fits).1))

pub check_iteration-check_parts-requires : goal.check_iteration-check_parts-requires
check_iteration-check_parts-requires t c =
    let size : forest_size (forest c.args.args.now) ≡ forest_size (forest (c.in-Some.first.now ∷ c.in-Some.rest.now)) = ap (λ (ts : List Tree). forest_size (forest ts)) c.in-Some.ensures.some in
    (omega (arith, size, c.decreases), (omega (arith, size, c.requires.small), (subst (λ (ts : List Tree). AllFit (forest ts)) c.in-Some.ensures.some c.requires.fits).1))

pub check_max_len-check_expr-requires : goal.check_max_len-check_expr-requires
check_max_len-check_expr-requires t c =
    let size : forest_size (forest c.args.args.now) ≡ forest_size (forest (c.in-Some.item.now ∷ c.in-Some.second.now ∷ [])) = ap (λ (ts : List Tree). forest_size (forest ts)) c.in-Some.ensures.some in
    (omega (arith, size, c.decreases), (omega (arith, size, c.requires.small), (subst (λ (ts : List Tree). AllFit (forest ts)) c.in-Some.ensures.some c.requires.fits).0))

pub check_contract_call-check_parts-requires : goal.check_contract_call-check_parts-requires
check_contract_call-check_parts-requires t c =
    let size : forest_size (forest c.args.args.now) ≡ forest_size (forest (c.in-Some.first.now ∷ c.in-Some.second.now ∷ c.in-Some.rest.now)) = ap (λ (ts : List Tree). forest_size (forest ts)) c.in-Some.ensures.some in
    (omega (arith, size, c.decreases), (omega (arith, size, c.requires.small), (subst (λ (ts : List Tree). AllFit (forest ts)) c.in-Some.ensures.some c.requires.fits).1.1))

pub check_let_with-check_bindings-requires : goal.check_let_with-check_bindings-requires
check_let_with-check_bindings-requires t c =
    let free = subst (λ (N : Names). shadowed_in c.args.ctx.now N (filter_map bound_name c.args.items.now) ≡ false) (sym c.in_ok-is_shadowed.ensures.kept) (sym c.in_ok-is_shadowed.ensures.found ∙ c.if-branch.false) in
    (omega (arith, c.decreases), (omega (arith, c.requires.small), (c.requires.fits, (sym c.are_bindings.ensures ∙ c.if-not-are_bindings.false, free))))

pub check_let_with-check_more-requires : goal.check_let_with-check_more-requires
check_let_with-check_more-requires t c = (omega (arith, c.decreases), (omega (arith, c.requires.small), c.requires.others))

pub check_head-check_native-requires : goal.check_head-check_native-requires
check_head-check_native-requires t c = (omega (arith, c.decreases), (c.requires.small, (c.requires.fits, (enough_as (head_at c.in-Evaluated.native) c.args.head c.args.args.now c.has_enough.result c.in-Evaluated.ensures c.has_enough.ensures c.if-not-has_enough.false, ap (has_head c.args.ctx.now.version) c.in-Evaluated.ensures ∙ c.requires.had))))

pub check_head-returns-in-Evaluated-clause-text : goal.check_head-returns-in-Evaluated-clause-text
check_head-returns-in-Evaluated-clause-text t c = text_by c.check_native.result _ _ c.check_native.ensures.text (ap (λ (h : Head). headed (name_of h) c.args.at c.args.args.now c.args.span) c.in-Evaluated.ensures)

pub check_head-check_named-requires : goal.check_head-check_named-requires
check_head-check_named-requires t c = (omega (arith, c.decreases), (c.requires.small, (c.requires.fits, enough_as (name_head c.in-Named.native) c.args.head c.args.args.now c.has_enough.result c.in-Named.ensures c.has_enough.ensures c.if-not-has_enough.false)))

pub check_head-returns-in-Named-clause-text : goal.check_head-returns-in-Named-clause-text
check_head-returns-in-Named-clause-text t c = text_by c.check_named.result _ _ c.check_named.ensures.text (ap (λ (h : Head). headed (name_of h) c.args.at c.args.args.now c.args.span) c.in-Named.ensures)

pub check_head-check_let-requires : goal.check_head-check_let-requires
check_head-check_let-requires t c = (omega (arith, c.decreases), (c.requires.small, (c.requires.fits, enough_as heads.Let c.args.head c.args.args.now c.has_enough.result c.in-Let.ensures c.has_enough.ensures c.if-not-has_enough.false)))

pub check_head-returns-in-Let-clause-text : goal.check_head-returns-in-Let-clause-text
check_head-returns-in-Let-clause-text t c = text_by c.check_let.result _ _ c.check_let.ensures.text (ap (λ (h : Head). headed (name_of h) c.args.at c.args.args.now c.args.span) c.in-Let.ensures)

pub check_head-check_match-requires : goal.check_head-check_match-requires
check_head-check_match-requires t c = (omega (arith, c.decreases), (c.requires.small, (c.requires.fits, enough_as heads.Match c.args.head c.args.args.now c.has_enough.result c.in-Match.ensures c.has_enough.ensures c.if-not-has_enough.false)))

pub check_head-returns-in-Match-clause-text : goal.check_head-returns-in-Match-clause-text
check_head-returns-in-Match-clause-text t c = text_by c.check_match.result _ _ c.check_match.ensures.text (ap (λ (h : Head). headed (name_of h) c.args.at c.args.args.now c.args.span) c.in-Match.ensures)

pub check_head-check_pairs-requires : goal.check_head-check_pairs-requires
check_head-check_pairs-requires t c = (omega (arith, c.decreases), (c.requires.small, (c.requires.fits, enough_as heads.TupleOf c.args.head c.args.args.now c.has_enough.result c.in-TupleOf.ensures c.has_enough.ensures c.if-not-has_enough.false)))

pub check_head-returns-in-TupleOf-clause-text : goal.check_head-returns-in-TupleOf-clause-text
check_head-returns-in-TupleOf-clause-text t c = text_by c.check_pairs.result _ _ c.check_pairs.ensures.text (ap (λ (h : Head). headed (name_of h) c.args.at c.args.args.now c.args.span) c.in-TupleOf.ensures)

pub check_head-check_max_len-requires : goal.check_head-check_max_len-requires
check_head-check_max_len-requires t c = (omega (arith, c.decreases), (c.requires.small, (c.requires.fits, enough_as heads.AsMaxLen c.args.head c.args.args.now c.has_enough.result c.in-AsMaxLen.ensures c.has_enough.ensures c.if-not-has_enough.false)))

pub check_head-returns-in-AsMaxLen-clause-text : goal.check_head-returns-in-AsMaxLen-clause-text
check_head-returns-in-AsMaxLen-clause-text t c = text_by c.check_max_len.result _ _ c.check_max_len.ensures.text (ap (λ (h : Head). headed (name_of h) c.args.at c.args.args.now c.args.span) c.in-AsMaxLen.ensures)

pub check_head-check_contract_call-requires : goal.check_head-check_contract_call-requires
check_head-check_contract_call-requires t c = (omega (arith, c.decreases), (c.requires.small, (c.requires.fits, enough_as heads.ContractCall c.args.head c.args.args.now c.has_enough.result c.in-ContractCall.ensures c.has_enough.ensures c.if-not-has_enough.false)))

pub check_head-returns-in-ContractCall-clause-text : goal.check_head-returns-in-ContractCall-clause-text
check_head-returns-in-ContractCall-clause-text t c = text_by c.check_contract_call.result _ _ c.check_contract_call.ensures.text (ap (λ (h : Head). headed (name_of h) c.args.at c.args.args.now c.args.span) c.in-ContractCall.ensures)

pub check_head-check_iteration-requires : goal.check_head-check_iteration-requires
check_head-check_iteration-requires t c = (omega (arith, c.decreases), (c.requires.small, (c.requires.fits, enough_as (iteration_head c.in-Iterate.iteration) c.args.head c.args.args.now c.has_enough.result c.in-Iterate.ensures c.has_enough.ensures c.if-not-has_enough.false)))

pub check_head-returns-in-Iterate-clause-text : goal.check_head-returns-in-Iterate-clause-text
check_head-returns-in-Iterate-clause-text t c = text_by c.check_iteration.result _ _ c.check_iteration.ensures.text (ap (λ (h : Head). headed (name_of h) c.args.at c.args.args.now c.args.span) c.in-Iterate.ensures)

pub check_list-check_head-requires : goal.check_list-check_head-requires
check_list-check_head-requires t c =
    let size : forest_size (forest c.args.items.now) ≡ 1 + forest_size (forest c.in-Some.args.now) + 1 = ap (λ (ts : List Tree). forest_size (forest ts)) c.in-Some.ensures.some in
    (omega (arith, size, c.decreases), (omega (arith, size, c.requires.small), ((subst (λ (ts : List Tree). AllFit (forest ts)) c.in-Some.ensures.some c.requires.fits).1, head_had c.args.ctx.now.version c.in-Some.head.name c.in-Some-native.row.head (ap head_of_row c.in-Some-native.ensures))))

pub check_expr-check_list-requires : goal.check_expr-check_list-requires
check_expr-check_list-requires t c =
    let tree : ListAt (forest c.deref-in-List.result.now) c.e.inside.span ≡ c.args.e.now = ap (λ (ts : List Tree). ListAt (forest ts) c.e.inside.span) c.deref-in-List.ensures.value ∙ (ap (λ (n : Node). tree_of n c.e.inside.span) (sym c.in-List.is) ∙ c.e.view_is) in
    let size : forest_size (forest c.deref-in-List.result.now) + 1 ≡ tree_size c.args.e.now = ap tree_size tree in
    (omega (arith, size, c.decreases), (omega (arith, size, c.requires.small), subst Fits (sym tree) c.requires.fits))

pub check_native-returns-clause-text : goal.check_native-returns-clause-text
check_native-returns-clause-text t c = text_by c.finish.result _ _ c.finish.ensures.text (c.op_of.ensures.text (texts_of c.in-Ok.parts.items) c.args.span ∙ ap (λ (ts : List Tree). headed (name_of (head_at c.args.native)) c.args.head ts c.args.span) c.in-Ok.ensures.text)

pub check_call-returns-clause-text : goal.check_call-returns-clause-text
check_call-returns-clause-text t c = text_by c.finish.result _ _ c.finish.ensures.text (ap (λ (ts : List Tree). headed c.args.head.name c.args.head.span ts c.args.span) c.in-Ok.ensures.text)

pub check_let-returns-clause-text : goal.check_let-returns-clause-text
check_let-returns-clause-text t c = text_by c.check_let_with.result _ _ c.check_let_with.ensures.text (ap (λ (ts : List Tree). headed (codes "let") c.args.head ts c.args.span) (sym (c.in-Some.ensures.some ∙ ap (λ (e : Tree). e ∷ c.in-Some.body.now) c.in-Some-items_at.ensures.some)))

pub check_named-returns-clause-text : goal.check_named-returns-clause-text
check_named-returns-clause-text t c =
    let rest : word c.in-Some-name_in.name ∷ texts_of c.in-Ok.parts.items ≡ c.args.args.now = ap (λ (ts : List Tree). word c.in-Some-name_in.name ∷ ts) c.in-Ok.ensures.text ∙ sym (c.in-Some.ensures.some ∙ ap (λ (e : Tree). e ∷ c.in-Some.rest.now) c.in-Some-name_in.ensures.some) in
    text_by c.finish.result _ _ c.finish.ensures.text (ap (λ (ts : List Tree). headed (name_of (name_head c.args.native)) c.args.head ts c.args.span) rest)

pub check_expr-returns-in-Atom-clause-text : goal.check_expr-returns-in-Atom-clause-text
check_expr-returns-in-Atom-clause-text t c = text_by c.check_name.result _ c.args.e.now c.check_name.ensures.text (ap (λ (n : Node). tree_of n c.e.inside.span) (sym c.in-Atom.is) ∙ c.e.view_is)

pub check_expr-returns-in-Uint-clause-text : goal.check_expr-returns-in-Uint-clause-text
check_expr-returns-in-Uint-clause-text t c = text_by c.uint.result _ c.args.e.now c.uint.ensures.text (ap (λ (n : Node). tree_of n c.e.inside.span) (sym c.in-Uint.is) ∙ c.e.view_is)

pub check_expr-returns-in-List-clause-text : goal.check_expr-returns-in-List-clause-text
check_expr-returns-in-List-clause-text t c = text_by c.check_list.result _ c.args.e.now c.check_list.ensures.text (ap (λ (ts : List Tree). ListAt (forest ts) c.e.inside.span) c.deref-in-List.ensures.value ∙ (ap (λ (n : Node). tree_of n c.e.inside.span) (sym c.in-List.is) ∙ c.e.view_is))
