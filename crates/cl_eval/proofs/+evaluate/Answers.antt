-- The cycle of evaluation: each step is one law of the limit.
use Rattle.std.proofs.Common.{◌≡◌, ◌≢◌, ℕ, zero, suc, ◌<◌, ◌≤◌, ◌-◌, ◌∷◌, ◌++◌, [], List, length, refl, sym, ap, ◌∙◌, arith}
use Rattle.std.proofs.lemmas.Int.{ints, to_z-of_z}
use Rattle.std.proofs.lemmas.List.{length-map}
use Rattle.std.proofs.lemmas.Result.{err_from_is_err_and}
use mir.Syntax.{w128}
use mir.Val.{to_z, of_z}
use Rattle.cl_values.specs.Tree.{IntV}
use Rattle.cl_state.specs.Stack.{Stack}
use Rattle.cl_code.specs.declared.op.Binding.{Binding}
use Rattle.cl_code.specs.Nodes.{are_once}
use Rattle.cl_code.specs.Typed.{Typed, expression_of}
use Rattle.cl_contracts.specs.declared.parts.Parts.{Parts}
use Rattle.cl_contracts.specs.Seen.{function_seen}
use Rattle.cl_meaning.specs.Answers.{and_then, returning}
use Rattle.cl_shapes.specs.declared.name.CostName.TheVariants.{Literal}
use Rattle.cl_meaning.specs.Names.{standing, literal}
use Rattle.cl_values.specs.Valid.{made}
use Rattle.cl_meaning.specs.Scope.{Frame, OwnFunction, called, in_frame, as_contract}
use Rattle.cl_meaning.specs.Calls.{closing}
use Rattle.cl_frames.specs.Watching.{watched, truthful}
use Rattle.cl_meaning.specs.Meaning.{means, applied}
use Rattle.cl_frames.proofs.WatchLaws.{charge_within, watched-stop, watched-ending, then_gave, starts, grew_more}
use Rattle.std.specs.Prelude.{option_map}
use Rattle.cl_frames.specs.Homes.{frame_seen, home_seen}
use Rattle.cl_frames.specs.Seen.{costs_of, scope, scope_of}
use Rattle.cl_frames.proofs.Steps.{native_ends}
use Rattle.cl_frames.proofs.WatchSteps.{hands_on, stops_eq, stops_then, charge_stops, charge_spent, pay_fails, pay_fails_at, part_fails, memory_ends, memory_fails, ends_so, gives, known_some, known_none, unseen_ends, node_stops, node_gives, node_unseen}
use Rattle.cl_frames.proofs.Unseen.{stopped, standing_unseen, literal_unseen, name_unseen, values_unseen, shortened_unseen, tuple_unseen, last_unseen, tried_unseen, token_unseen, stx_unseen, printed_unseen, nothing_unseen, one_unseen, all_unseen}
use Rattle.cl_frames.proofs.Parts.{parts_turn, parts_turn_stop, parts_end, hands_on_all, onto_memory}
use Rattle.cl_frames.proofs.Nodes
use Rattle.cl_frames.proofs.Going
use Rattle.cl_frames.proofs.Going.{node_is}
use Rattle.cl_frames.proofs.Heads
use Rattle.cl_frames.proofs.Forms
use Rattle.cl_frames.proofs.Forms.{begin_at, strict_at, call_at, means_none, means_down, applied_none, applied_down}
use Rattle.cl_calls.proofs.Chosen.{chose_by}
use Rattle.cl_frames.proofs.Ways.{chose_first, chose_second, choice_stops, truth_stops, wanted_good, wanted_bad, wanted_neither, truth_ends, err_good, err_bad, err_neither}
use Rattle.cl_frames.proofs.Loops
use Rattle.cl_frames.proofs.Lets
use Rattle.cl_frames.proofs.TupleLaws
use Rattle.cl_frames.proofs.HomeLaws
use Rattle.cl_frames.proofs.Closing.{public_ends, public_one, other_ends, returning_ends, closes_below}
use Rattle.cl_values.specs.Tree.{ListV, items_of}
use Rattle.cl_values.specs.Computed.{Gives}
use Rattle.cl_meaning.specs.Sequences.{each, folded}
use Rattle.cl_meaning.specs.Scope.{sizes}
use Rattle.cl_meaning.specs.Answers.{stop, outcome_of}
use Rattle.cl_frames.specs.Applying.{callee_seen}
use Rattle.cl_frames.specs.Rows.{rows_from}
use Rattle.cl_frames.proofs.Parts.{onto, onto-nil}
use Rattle.cl_frames.proofs.Binding.{given_as}
use Rattle.cl_frames.proofs.IterateLaws
use Rattle.cl_frames.proofs.Iterating
use Rattle.cl_frames.proofs.Rows
use Rattle.cl_eval.proofs.+evaluate.Goals as goal
use Rattle.cl_forms.specs.declared.head.TokenNative.TheVariants as natives

positive : (n : ℕ) → n ≢ 0 → 0 < n
positive zero h = absurd (h refl)
positive (suc n) h = omega arith

no_less : (n : ℕ) → n ≤ n
no_less n = omega arith

still_less : (k m n : ℕ) → k ≤ m → m ≤ n → k ≤ n
still_less k m n h i = omega (arith, h, i)

pub walk::evaluate-returns-then-depth-eq0-clause-meant : goal.walk::evaluate-returns-then-depth-eq0-clause-meant
walk::evaluate-returns-then-depth-eq0-clause-meant g t c fits = means_none _ _ _ _ _ _ _ c.if-depth-eq0.true

pub walk::evaluate-returns-in_err-value-clause-meant : goal.walk::evaluate-returns-in_err-value-clause-meant
walk::evaluate-returns-in_err-value-clause-meant g t c fits = hands_on _ _ c.in_err-value.field-0.0 _ _ _ (err_from_is_err_and c.from_residual.result c.from_residual.ensures.1) (stops_eq _ _ _ _ _ _ (means_down _ _ _ _ _ _ _ (positive _ c.if-depth-eq0.false)) (node_stops _ _ _ _ _ _ _ _ _ (c.in_err-value.ensures.meant fits)))

pub walk::evaluate-returns-clause-meant : goal.walk::evaluate-returns-clause-meant
walk::evaluate-returns-clause-meant g t c fits =
    means_down _ _ _ _ _ _ _ (positive _ c.if-depth-eq0.false) ∙ watched-ending _ _ _ _ _ ∙ node_gives _ _ _ _ _ _ _ _ _ (c.in_ok-value.ensures.meant fits) (Nodes.place_of _ _ _ _ _ c.code.view_is) refl c.in_ok-saw.ensures

pub walk::evaluate_node-returns-in-Int-clause-meant : goal.walk::evaluate_node-returns-in-Int-clause-meant
walk::evaluate_node-returns-in-Int-clause-meant g t c fits =
    let s = c.args.world.now.stack.top in
    let same : to_z w128 (of_z w128 c.in-Int.number) ≡ c.in-Int.number = grind (arith, ints, to_z-of_z) in
    ends_so _ _ _ _ _ _
    (ap (watched _ _ _) (node_is c.args.context.now c.args.names.now.values _ _ _ _ _ _ _ _ _ _ fits c.code.view_is c.requires.goes c.in-Int.is c.as_slice-parts.ensures.value) ∙ ap (λ z. watched (costs_of c.args.context.now) c.args.meter.now (g.W.Watch.seen c.args.watch.now) (standing Literal (IntV z) s)) (sym same) ∙ ap (λ v. watched (costs_of c.args.context.now) c.args.meter.now (g.W.Watch.seen c.args.watch.now) (standing Literal v s)) (sym c.int_value.ensures))
    (unseen_ends _ _ _ _ _ _ _ (standing_unseen _ _ _ _ _) (c.stands.ensures s))

pub walk::evaluate_node-returns-in-Uint-clause-meant : goal.walk::evaluate_node-returns-in-Uint-clause-meant
walk::evaluate_node-returns-in-Uint-clause-meant g t c fits =
    let s = c.args.world.now.stack.top in
    ends_so _ _ _ _ _ _
    (ap (watched _ _ _) (node_is c.args.context.now c.args.names.now.values _ _ _ _ _ _ _ _ _ _ fits c.code.view_is c.requires.goes c.in-Uint.is c.as_slice-parts.ensures.value) ∙ ap (λ z. watched (costs_of c.args.context.now) c.args.meter.now (g.W.Watch.seen c.args.watch.now) (standing Literal z s)) (sym c.uint_value.ensures))
    (unseen_ends _ _ _ _ _ _ _ (standing_unseen _ _ _ _ _) (c.stands-in-Uint.ensures s))

pub walk::evaluate_node-returns-in-Buff-clause-meant : goal.walk::evaluate_node-returns-in-Buff-clause-meant
walk::evaluate_node-returns-in-Buff-clause-meant g t c fits =
    ends_so _ _ _ _ _ _ (ap (watched _ _ _) (node_is c.args.context.now c.args.names.now.values _ _ _ _ _ _ _ _ _ _ fits c.code.view_is c.requires.goes c.in-Buff.is c.as_slice-parts.ensures.value) ∙ ap (λ b. watched (costs_of c.args.context.now) c.args.meter.now (g.W.Watch.seen c.args.watch.now) (literal (made (Rattle.cl_values.specs.Tree.BuffV b)) c.args.world.now.stack.top)) (sym c.deref.ensures.value)) (unseen_ends _ _ _ _ _ _ _ (literal_unseen _ _ _ _) (c.buff_literal.ensures c.args.world.now.stack.top))

pub walk::evaluate_node-returns-in-Ascii-clause-meant : goal.walk::evaluate_node-returns-in-Ascii-clause-meant
walk::evaluate_node-returns-in-Ascii-clause-meant g t c fits =
    ends_so _ _ _ _ _ _ (ap (watched _ _ _) (node_is c.args.context.now c.args.names.now.values _ _ _ _ _ _ _ _ _ _ fits c.code.view_is c.requires.goes c.in-Ascii.is c.as_slice-parts.ensures.value) ∙ ap (λ b. watched (costs_of c.args.context.now) c.args.meter.now (g.W.Watch.seen c.args.watch.now) (literal (made (Rattle.cl_values.specs.Tree.AsciiV b)) c.args.world.now.stack.top)) (sym c.deref-in-Ascii.ensures.value)) (unseen_ends _ _ _ _ _ _ _ (literal_unseen _ _ _ _) (c.ascii_literal.ensures c.args.world.now.stack.top))

pub walk::evaluate_node-returns-in-Utf8-clause-meant : goal.walk::evaluate_node-returns-in-Utf8-clause-meant
walk::evaluate_node-returns-in-Utf8-clause-meant g t c fits =
    ends_so _ _ _ _ _ _ (ap (watched _ _ _) (node_is c.args.context.now c.args.names.now.values _ _ _ _ _ _ _ _ _ _ fits c.code.view_is c.requires.goes c.in-Utf8.is c.as_slice-parts.ensures.value) ∙ ap (λ b. watched (costs_of c.args.context.now) c.args.meter.now (g.W.Watch.seen c.args.watch.now) (literal (made (Rattle.cl_values.specs.Tree.Utf8V b)) c.args.world.now.stack.top)) (sym c.deref-in-Utf8.ensures.value)) (unseen_ends _ _ _ _ _ _ _ (literal_unseen _ _ _ _) (c.utf8_literal.ensures c.args.world.now.stack.top))

pub walk::evaluate_node-returns-in-Standing-clause-meant : goal.walk::evaluate_node-returns-in-Standing-clause-meant
walk::evaluate_node-returns-in-Standing-clause-meant g t c fits = ends_so _ _ _ _ _ _ (ap (watched _ _ _) (node_is c.args.context.now c.args.names.now.values _ _ _ _ _ _ _ _ _ _ fits c.code.view_is c.requires.goes c.in-Standing.is c.as_slice-parts.ensures.value)) (unseen_ends _ _ _ _ _ _ _ (standing_unseen _ _ _ _ _) (c.principal_literal.ensures c.args.world.now.stack.top))

pub walk::evaluate_node-returns-in-Local-clause-meant : goal.walk::evaluate_node-returns-in-Local-clause-meant
walk::evaluate_node-returns-in-Local-clause-meant g t c fits =
    ends_so _ _ _ _ _ _ (ap (watched _ _ _) (node_is c.args.context.now c.args.names.now.values _ _ _ _ _ _ _ _ _ _ fits c.code.view_is c.requires.goes c.in-Local.is c.as_slice-parts.ensures.value) ∙ ap (λ p. watched (costs_of c.args.context.now) c.args.meter.now (g.W.Watch.seen c.args.watch.now) (standing Literal (Rattle.cl_values.specs.Tree.PrincipalV p) c.args.world.now.stack.top)) (sym c.beside.ensures)) (unseen_ends _ _ _ _ _ _ _ (standing_unseen _ _ _ _ _) (c.principal_literal-in-Local.ensures c.args.world.now.stack.top))

pub walk::evaluate_node-returns-in-Keyword-clause-meant : goal.walk::evaluate_node-returns-in-Keyword-clause-meant
walk::evaluate_node-returns-in-Keyword-clause-meant g t c fits = ends_so _ _ _ _ _ _ (ap (watched _ _ _) (node_is c.args.context.now c.args.names.now.values _ _ _ _ _ _ _ _ _ _ fits c.code.view_is c.requires.goes c.in-Keyword.is c.as_slice-parts.ensures.value)) (unseen_ends _ _ _ _ _ _ _ (name_unseen _ _ _ _ _) (c.keyword.ensures c.args.world.now.stack.top))

pub walk::evaluate_node-returns-in-Bound-clause-meant : goal.walk::evaluate_node-returns-in-Bound-clause-meant
walk::evaluate_node-returns-in-Bound-clause-meant g t c fits = ends_so _ _ _ _ _ _ (ap (watched _ _ _) (node_is c.args.context.now c.args.names.now.values _ _ _ _ _ _ _ _ _ _ fits c.code.view_is c.requires.goes c.in-Bound.is c.as_slice-parts.ensures.value)) (unseen_ends _ _ _ _ _ _ _ (name_unseen _ _ _ _ _) (c.named.ensures c.args.world.now.stack.top fits))

pub walk::evaluate_node-returns-in-Constant-clause-meant : goal.walk::evaluate_node-returns-in-Constant-clause-meant
walk::evaluate_node-returns-in-Constant-clause-meant g t c fits = ends_so _ _ _ _ _ _ (ap (watched _ _ _) (node_is c.args.context.now c.args.names.now.values _ _ _ _ _ _ _ _ _ _ fits c.code.view_is c.requires.goes c.in-Constant.is c.as_slice-parts.ensures.value)) (unseen_ends _ _ _ _ _ _ _ (name_unseen _ _ _ _ _) (c.named-in-Constant.ensures c.args.world.now.stack.top fits))

pub walk::evaluate_node-returns-in-OnValues-clause-meant : goal.walk::evaluate_node-returns-in-OnValues-clause-meant
walk::evaluate_node-returns-in-OnValues-clause-meant g t c fits = ends_so _ _ _ _ _ _ (ap (watched _ _ _) (node_is c.args.context.now c.args.names.now.values _ _ _ _ _ _ _ _ _ _ fits c.code.view_is c.requires.goes c.in-OnValues.is c.as_slice-parts.ensures.value)) (c.evaluate_native.ensures.meant fits)

pub walk::evaluate_node-returns-in-OnParts-clause-meant : goal.walk::evaluate_node-returns-in-OnParts-clause-meant
walk::evaluate_node-returns-in-OnParts-clause-meant g t c fits = ends_so _ _ _ _ _ _ (ap (watched _ _ _) (node_is c.args.context.now c.args.names.now.values _ _ _ _ _ _ _ _ _ _ fits c.code.view_is c.requires.goes c.in-OnParts.is c.as_slice-parts.ensures.value)) (c.evaluate_on_parts.ensures.meant fits)

pub walk::evaluate_node-returns-in-OnName-clause-meant : goal.walk::evaluate_node-returns-in-OnName-clause-meant
walk::evaluate_node-returns-in-OnName-clause-meant g t c fits = ends_so _ _ _ _ _ _ (ap (watched _ _ _) (node_is c.args.context.now c.args.names.now.values _ _ _ _ _ _ _ _ _ _ fits c.code.view_is c.requires.goes c.in-OnName.is c.as_slice-parts.ensures.value)) (c.evaluate_on_name.ensures.meant fits)

pub walk::evaluate_node-returns-in-MatchOptional-clause-meant : goal.walk::evaluate_node-returns-in-MatchOptional-clause-meant
walk::evaluate_node-returns-in-MatchOptional-clause-meant g t c fits = ends_so _ _ _ _ _ _ (ap (watched _ _ _) (node_is c.args.context.now c.args.names.now.values _ _ _ _ _ _ _ _ _ _ fits c.code.view_is c.requires.goes c.in-MatchOptional.is c.as_slice-parts.ensures.value)) (c.evaluate_match_optional.ensures.meant fits)

pub walk::evaluate_node-returns-in-MatchResponse-clause-meant : goal.walk::evaluate_node-returns-in-MatchResponse-clause-meant
walk::evaluate_node-returns-in-MatchResponse-clause-meant g t c fits = ends_so _ _ _ _ _ _ (ap (watched _ _ _) (node_is c.args.context.now c.args.names.now.values _ _ _ _ _ _ _ _ _ _ fits c.code.view_is c.requires.goes c.in-MatchResponse.is c.as_slice-parts.ensures.value)) (c.evaluate_match_response.ensures.meant fits)

pub walk::evaluate_node-returns-in-Call-clause-meant : goal.walk::evaluate_node-returns-in-Call-clause-meant
walk::evaluate_node-returns-in-Call-clause-meant g t c fits = ends_so _ _ _ _ _ _ (ap (watched _ _ _) (node_is c.args.context.now c.args.names.now.values _ _ _ _ _ _ _ _ _ _ fits c.code.view_is c.requires.goes c.in-Call.is c.as_slice-parts.ensures.value)) (c.evaluate_call.ensures.meant fits)

pub walk::evaluate_node-returns-in-Let-clause-meant : goal.walk::evaluate_node-returns-in-Let-clause-meant
walk::evaluate_node-returns-in-Let-clause-meant g t c fits = ends_so _ _ _ _ _ _ (ap (watched _ _ _) (node_is c.args.context.now c.args.names.now.values _ _ _ _ _ _ _ _ _ _ fits c.code.view_is c.requires.goes c.in-Let.is c.as_slice-parts.ensures.value) ∙ Lets.let_names _ _ _ _ _ _ _ _ _ _ c.deref-in-Let.ensures.value) (c.evaluate_let.ensures.meant _ fits)

pub on_parts::evaluate_on_parts-returns-in-If-clause-meant : goal.on_parts::evaluate_on_parts-returns-in-If-clause-meant
on_parts::evaluate_on_parts-returns-in-If-clause-meant g t c fits = ends_so _ _ _ _ _ _ (ap (watched _ _ _) (Heads.parts_at _ _ _ _ _ _ _ _ c.in-If.is)) (c.evaluate_if.ensures.meant fits)

pub on_parts::evaluate_on_parts-returns-in-Begin-clause-meant : goal.on_parts::evaluate_on_parts-returns-in-Begin-clause-meant
on_parts::evaluate_on_parts-returns-in-Begin-clause-meant g t c fits = ends_so _ _ _ _ _ _ (ap (watched _ _ _) (Heads.parts_at _ _ _ _ _ _ _ _ c.in-Begin.is)) (c.evaluate_begin.ensures.meant fits)

pub on_parts::evaluate_on_parts-returns-in-And-clause-meant : goal.on_parts::evaluate_on_parts-returns-in-And-clause-meant
on_parts::evaluate_on_parts-returns-in-And-clause-meant g t c fits = ends_so _ _ _ _ _ _ (ap (watched _ _ _) (Heads.parts_at _ _ _ _ _ _ _ _ c.in-And.is)) (c.evaluate_and.ensures.meant fits)

pub on_parts::evaluate_on_parts-returns-in-Or-clause-meant : goal.on_parts::evaluate_on_parts-returns-in-Or-clause-meant
on_parts::evaluate_on_parts-returns-in-Or-clause-meant g t c fits = ends_so _ _ _ _ _ _ (ap (watched _ _ _) (Heads.parts_at _ _ _ _ _ _ _ _ c.in-Or.is)) (c.evaluate_or.ensures.meant fits)

pub on_parts::evaluate_on_parts-returns-in-Asserts-clause-meant : goal.on_parts::evaluate_on_parts-returns-in-Asserts-clause-meant
on_parts::evaluate_on_parts-returns-in-Asserts-clause-meant g t c fits = ends_so _ _ _ _ _ _ (ap (watched _ _ _) (Heads.parts_at _ _ _ _ _ _ _ _ c.in-Asserts.is)) (c.evaluate_asserts.ensures.meant fits)

pub on_parts::evaluate_on_parts-returns-in-Unwrap-clause-meant : goal.on_parts::evaluate_on_parts-returns-in-Unwrap-clause-meant
on_parts::evaluate_on_parts-returns-in-Unwrap-clause-meant g t c fits = ends_so _ _ _ _ _ _ (ap (watched _ _ _) (Heads.parts_at _ _ _ _ _ _ _ _ c.in-Unwrap.is)) (c.evaluate_unwrap.ensures.meant fits)

pub on_parts::evaluate_on_parts-returns-in-UnwrapErr-clause-meant : goal.on_parts::evaluate_on_parts-returns-in-UnwrapErr-clause-meant
on_parts::evaluate_on_parts-returns-in-UnwrapErr-clause-meant g t c fits = ends_so _ _ _ _ _ _ (ap (watched _ _ _) (Heads.parts_at _ _ _ _ _ _ _ _ c.in-UnwrapErr.is)) (c.evaluate_unwrap_err.ensures.meant fits)

pub on_parts::evaluate_on_parts-returns-in-Try-clause-meant : goal.on_parts::evaluate_on_parts-returns-in-Try-clause-meant
on_parts::evaluate_on_parts-returns-in-Try-clause-meant g t c fits = ends_so _ _ _ _ _ _ (ap (watched _ _ _) (Heads.parts_at _ _ _ _ _ _ _ _ c.in-Try.is)) (c.evaluate_try.ensures.meant fits)

pub on_parts::evaluate_on_parts-returns-in-AsContract-clause-meant : goal.on_parts::evaluate_on_parts-returns-in-AsContract-clause-meant
on_parts::evaluate_on_parts-returns-in-AsContract-clause-meant g t c fits = ends_so _ _ _ _ _ _ (ap (watched _ _ _) (Heads.parts_at _ _ _ _ _ _ _ _ c.in-AsContract.is)) (c.evaluate_as_contract.ensures.meant fits)

pub on_parts::evaluate_on_parts-returns-in-Print-clause-meant : goal.on_parts::evaluate_on_parts-returns-in-Print-clause-meant
on_parts::evaluate_on_parts-returns-in-Print-clause-meant g t c fits = ends_so _ _ _ _ _ _ (ap (watched _ _ _) (Heads.parts_at _ _ _ _ _ _ _ _ c.in-Print.is)) (c.evaluate_print.ensures.meant fits)

pub on_names::evaluate_on_name-returns-in-Nothing-clause-meant : goal.on_names::evaluate_on_name-returns-in-Nothing-clause-meant
on_names::evaluate_on_name-returns-in-Nothing-clause-meant g t c fits = ends_so _ _ _ _ _ _ (ap (watched _ _ _) (Heads.nothing_at _ _ _ _ _ _ _ _ (sym c.in-Nothing.is ∙ c.taking_of.ensures) c.requires.fit)) (unseen_ends _ _ _ _ _ _ _ (nothing_unseen c.args.native (scope c.args.context.now c.args.names.now) c.args.name.now.name c.args.world.now.stack.top _ _) c.with_nothing.ensures.meant)

pub on_names::evaluate_on_name-returns-in_err-value-in-One-clause-meant : goal.on_names::evaluate_on_name-returns-in_err-value-in-One-clause-meant
on_names::evaluate_on_name-returns-in_err-value-in-One-clause-meant g t c fits =
    part_fails _ _ c.in_err-value-in-One.field-0.0 _ _ _ _ _ _ _ _ (err_from_is_err_and c.from_residual.result c.from_residual.ensures.1) (ap (watched _ _ _) (Heads.one_at _ _ _ _ _ _ _ _ _ (sym c.in-One.is ∙ c.taking_of.ensures) (Heads.is_one _ _ (sym c.in-One.is ∙ c.taking_of.ensures) c.requires.fit) c.index-codes-0.is)) (c.in_err-value-in-One.ensures.meant fits)

pub on_names::evaluate_on_name-returns-in_ok-value-in-One-clause-meant : goal.on_names::evaluate_on_name-returns-in_ok-value-in-One-clause-meant
on_names::evaluate_on_name-returns-in_ok-value-in-One-clause-meant g t c fits = ends_so _ _ _ _ _ _ (ap (watched _ _ _) (Heads.one_at _ _ _ _ _ _ _ _ _ (sym c.in-One.is ∙ c.taking_of.ensures) (Heads.is_one _ _ (sym c.in-One.is ∙ c.taking_of.ensures) c.requires.fit) c.index-codes-0.is) ∙ then_gave _ _ _ _ _ _ _ _ _ (c.in_ok-value-in-One.ensures.meant fits)) (unseen_ends _ _ _ _ _ _ _ (one_unseen c.args.native (scope c.args.context.now c.args.names.now) c.args.name.now.name _ _ _ _) (c.with_one.ensures.meant fits))

pub on_names::evaluate_on_name-returns-in_err-values-in-All-clause-meant : goal.on_names::evaluate_on_name-returns-in_err-values-in-All-clause-meant
on_names::evaluate_on_name-returns-in_err-values-in-All-clause-meant g t c fits =
    part_fails _ _ c.in_err-values-in-All.field-0.0 _ _ _ _ _ _ _ _ (err_from_is_err_and c.from_residual-in_err-values-in-All.result c.from_residual-in_err-values-in-All.ensures.1) (ap (watched _ _ _) (Heads.all_at _ _ _ _ _ _ _ _ (sym c.in-All.is ∙ c.taking_of.ensures))) (c.in_err-values-in-All.ensures.meant fits)

pub on_names::evaluate_on_name-returns-in_ok-values-in-All-clause-meant : goal.on_names::evaluate_on_name-returns-in_ok-values-in-All-clause-meant
on_names::evaluate_on_name-returns-in_ok-values-in-All-clause-meant g t c fits = ends_so _ _ _ _ _ _ (ap (watched _ _ _) (Heads.all_at _ _ _ _ _ _ _ _ (sym c.in-All.is ∙ c.taking_of.ensures)) ∙ then_gave _ _ _ _ _ _ _ _ _ (c.in_ok-values-in-All.ensures.meant fits)) (unseen_ends _ _ _ _ _ _ _ (all_unseen c.args.native (scope c.args.context.now c.args.names.now) c.args.name.now.name _ _ _ _) (c.with_all.ensures.meant fits))

pub walk::evaluate_parts-returns-in_err-value-clause-meant : goal.walk::evaluate_parts-returns-in_err-value-clause-meant
walk::evaluate_parts-returns-in_err-value-clause-meant g t c fits =
    let here : c.loop-code.code-index < length c.args.codes.now = c.loop-code-test.true in
    hands_on_all _ _ c.in_err-value.field-0.0 _ _ _ (err_from_is_err_and c.from_residual-in_err-value.result c.from_residual-in_err-value.ensures.1)
    (stops_eq _ _ _ _ _ _ (c.loop-code.invariant.so_far fits) (parts_turn_stop _ _ _ _ _ _ _ _ _ _ _ _ _ _ here c.code-item.is (c.in_err-value.ensures.meant fits)))

pub walk::evaluate_parts-loop-code-preserved : goal.walk::evaluate_parts-loop-code-preserved
walk::evaluate_parts-loop-code-preserved g t c = record {
  so_far = λ fits.
      let here : c.loop-code.code-index < length c.args.codes.now = c.loop-code-test.true in
      c.loop-code.invariant.so_far fits
      ∙ parts_turn _ _ _ _ _ _ _ _ _ _ _ _ _ _ _ here c.code-item.is c.push_reserved.ensures.items (c.in_ok-value.ensures.meant fits);
  below = c.in_ok-value.ensures.below ∙ c.loop-code.invariant.below;
  grew = still_less _ _ _ c.loop-code.invariant.grew c.in_ok-value.ensures.grew;
  room = omega (arith, c.loop-code.invariant.room, c.push_reserved.ensures.capacity);
  count = omega (arith, c.loop-code.invariant.count, c.push_reserved.ensures.len);
}

pub walk::evaluate_parts-returns-clause-meant : goal.walk::evaluate_parts-returns-clause-meant
walk::evaluate_parts-returns-clause-meant g t c fits =
    let past : length c.args.codes.now ≤ c.loop-code.code-index = c.loop-code-test.false in
    c.loop-code.invariant.so_far fits ∙ parts_end _ _ _ _ _ _ _ _ _ past

pub walk::evaluate_native-returns-in_err-values-clause-meant : goal.walk::evaluate_native-returns-in_err-values-clause-meant
walk::evaluate_native-returns-in_err-values-clause-meant g t c fits = part_fails _ _ c.in_err-values.field-0.0 _ _ _ _ _ _ _ _ (err_from_is_err_and c.from_residual.result c.from_residual.ensures.1) (ap (watched _ _ _) (strict_at _ _ _ _ _ _)) (c.in_err-values.ensures.meant fits)

pub walk::evaluate_native-returns-clause-meant : goal.walk::evaluate_native-returns-clause-meant
walk::evaluate_native-returns-clause-meant g t c fits = ends_so _ _ _ _ _ _ (ap (watched _ _ _) (strict_at _ _ _ _ _ _) ∙ then_gave _ _ _ _ _ _ _ _ _ (c.in_ok-values.ensures.meant fits)) (unseen_ends _ _ _ _ _ _ _ (values_unseen _ _ _ _ _ _) (c.native_on.ensures _))

pub walk::evaluate_truth-returns-in_err-value-clause-meant : goal.walk::evaluate_truth-returns-in_err-value-clause-meant
walk::evaluate_truth-returns-in_err-value-clause-meant g t c fits = hands_on _ _ c.in_err-value.field-0.0 _ _ _ (err_from_is_err_and c.from_residual.result c.from_residual.ensures.1) (truth_stops _ _ _ _ _ (c.in_err-value.ensures.meant fits))

pub walk::evaluate_truth-returns-clause-meant : goal.walk::evaluate_truth-returns-clause-meant
walk::evaluate_truth-returns-clause-meant g t c fits = ends_so _ _ _ _ _ _ (ap truthful (c.in_ok-value.ensures.meant fits)) (truth_ends _ _ _ _ _ (c.truth.ensures _ _))

pub walk::evaluate_thrown-returns-in_err-value-clause-meant : goal.walk::evaluate_thrown-returns-in_err-value-clause-meant
walk::evaluate_thrown-returns-in_err-value-clause-meant g t c fits = part_fails _ _ c.in_err-value.field-0.0 _ _ _ _ _ _ _ _ (err_from_is_err_and c.from_residual.result c.from_residual.ensures.1) refl (c.in_err-value.ensures.meant fits)

pub walk::evaluate_thrown-returns-clause-meant : goal.walk::evaluate_thrown-returns-clause-meant
walk::evaluate_thrown-returns-clause-meant g t c fits = then_gave _ _ _ _ _ _ _ _ _ (c.in_ok-value.ensures.meant fits) ∙ watched-stop _ _ _ _ _

pub control::evaluate_if-returns-in_err-pay-clause-meant : goal.control::evaluate_if-returns-in_err-pay-clause-meant
control::evaluate_if-returns-in_err-pay-clause-meant g t c fits = pay_fails _ _ c.in_err-pay.field-0.0 _ _ _ _ _ _ _ _ (err_from_is_err_and c.from_residual.result c.from_residual.ensures.1) (ap (watched _ _ _) (Forms.if_at _ _ _ _ c.requires.fit _ c.index-codes-0.is _ c.index-codes-1.is _ c.index-codes-2.is)) c.in_err-pay.ensures

pub control::evaluate_if-returns-in_err-holds-clause-meant : goal.control::evaluate_if-returns-in_err-holds-clause-meant
control::evaluate_if-returns-in_err-holds-clause-meant g t c fits =
    hands_on _ _ c.in_err-holds.field-0.0 _ _ _ (err_from_is_err_and c.from_residual-in_err-holds.result c.from_residual-in_err-holds.ensures.1)
    (stops_eq _ _ _ _ _ _ (ap (watched _ _ _) (Forms.if_at _ _ _ _ c.requires.fit _ c.index-codes-0.is _ c.index-codes-1.is _ c.index-codes-2.is) ∙ charge_within _ _ _ _ _ _ _ c.in_ok-pay.ensures) (choice_stops _ _ _ _ _ _ _ _ _ _ (c.in_err-holds.ensures.meant fits)))

pub control::evaluate_if-returns-then-holds-clause-meant : goal.control::evaluate_if-returns-then-holds-clause-meant
control::evaluate_if-returns-then-holds-clause-meant g t c fits = ends_so _ _ _ _ _ _ (ap (watched _ _ _) (Forms.if_at _ _ _ _ c.requires.fit _ c.index-codes-0.is _ c.index-codes-1.is _ c.index-codes-2.is) ∙ charge_within _ _ _ _ _ _ _ c.in_ok-pay.ensures ∙ chose_first _ _ _ _ _ _ _ _ _ _ (c.in_ok-holds.ensures.meant fits) c.if-holds.true) (c.evaluate.ensures.meant fits)

pub control::evaluate_if-returns-else-holds-clause-meant : goal.control::evaluate_if-returns-else-holds-clause-meant
control::evaluate_if-returns-else-holds-clause-meant g t c fits = ends_so _ _ _ _ _ _ (ap (watched _ _ _) (Forms.if_at _ _ _ _ c.requires.fit _ c.index-codes-0.is _ c.index-codes-1.is _ c.index-codes-2.is) ∙ charge_within _ _ _ _ _ _ _ c.in_ok-pay.ensures ∙ chose_second _ _ _ _ _ _ _ _ _ _ (c.in_ok-holds.ensures.meant fits) c.if-holds.false) (c.evaluate-else-holds.ensures.meant fits)

pub control::evaluate_asserts-returns-in_err-pay-clause-meant : goal.control::evaluate_asserts-returns-in_err-pay-clause-meant
control::evaluate_asserts-returns-in_err-pay-clause-meant g t c fits = pay_fails _ _ c.in_err-pay.field-0.0 _ _ _ _ _ _ _ _ (err_from_is_err_and c.from_residual.result c.from_residual.ensures.1) (ap (watched _ _ _) (Forms.asserts_at _ _ _ _ c.requires.fit _ c.index-codes-0.is _ c.index-codes-1.is)) c.in_err-pay.ensures

pub control::evaluate_asserts-returns-in_err-holds-clause-meant : goal.control::evaluate_asserts-returns-in_err-holds-clause-meant
control::evaluate_asserts-returns-in_err-holds-clause-meant g t c fits =
    hands_on _ _ c.in_err-holds.field-0.0 _ _ _ (err_from_is_err_and c.from_residual-in_err-holds.result c.from_residual-in_err-holds.ensures.1)
    (stops_eq _ _ _ _ _ _ (ap (watched _ _ _) (Forms.asserts_at _ _ _ _ c.requires.fit _ c.index-codes-0.is _ c.index-codes-1.is) ∙ charge_within _ _ _ _ _ _ _ c.in_ok-pay.ensures) (choice_stops _ _ _ _ _ _ _ _ _ _ (c.in_err-holds.ensures.meant fits)))

pub control::evaluate_asserts-returns-then-holds-clause-meant : goal.control::evaluate_asserts-returns-then-holds-clause-meant
control::evaluate_asserts-returns-then-holds-clause-meant g t c fits = ap (watched _ _ _) (Forms.asserts_at _ _ _ _ c.requires.fit _ c.index-codes-0.is _ c.index-codes-1.is) ∙ charge_within _ _ _ _ _ _ _ c.in_ok-pay.ensures ∙ chose_first _ _ _ _ _ _ _ _ _ _ (c.in_ok-holds.ensures.meant fits) c.if-holds.true ∙ gives _ _ _ _ _ _ _ c.bool_value.ensures refl

pub control::evaluate_asserts-returns-else-holds-clause-meant : goal.control::evaluate_asserts-returns-else-holds-clause-meant
control::evaluate_asserts-returns-else-holds-clause-meant g t c fits = ends_so _ _ _ _ _ _ (ap (watched _ _ _) (Forms.asserts_at _ _ _ _ c.requires.fit _ c.index-codes-0.is _ c.index-codes-1.is) ∙ charge_within _ _ _ _ _ _ _ c.in_ok-pay.ensures ∙ chose_second _ _ _ _ _ _ _ _ _ _ (c.in_ok-holds.ensures.meant fits) c.if-holds.false) (c.evaluate_thrown.ensures.meant fits)

pub control::evaluate_unwrap-returns-in_err-pay-clause-meant : goal.control::evaluate_unwrap-returns-in_err-pay-clause-meant
control::evaluate_unwrap-returns-in_err-pay-clause-meant g t c fits = pay_fails _ _ c.in_err-pay.field-0.0 _ _ _ _ _ _ _ _ (err_from_is_err_and c.from_residual.result c.from_residual.ensures.1) (ap (watched _ _ _) (Forms.unwrap_at _ _ _ _ c.requires.fit _ c.index-codes-0.is _ c.index-codes-1.is)) c.in_err-pay.ensures

pub control::evaluate_unwrap-returns-in_err-value-clause-meant : goal.control::evaluate_unwrap-returns-in_err-value-clause-meant
control::evaluate_unwrap-returns-in_err-value-clause-meant g t c fits =
    part_fails _ _ c.in_err-value.field-0.0 _ _ _ _ _ _ _ _ (err_from_is_err_and c.from_residual-in_err-value.result c.from_residual-in_err-value.ensures.1) (ap (watched _ _ _) (Forms.unwrap_at _ _ _ _ c.requires.fit _ c.index-codes-0.is _ c.index-codes-1.is) ∙ charge_within _ _ _ _ _ _ _ c.in_ok-pay.ensures) (c.in_err-value.ensures.meant fits)

pub control::evaluate_unwrap-returns-in-Good-clause-meant : goal.control::evaluate_unwrap-returns-in-Good-clause-meant
control::evaluate_unwrap-returns-in-Good-clause-meant g t c fits =
    ap (watched _ _ _) (Forms.unwrap_at _ _ _ _ c.requires.fit _ c.index-codes-0.is _ c.index-codes-1.is) ∙ charge_within _ _ _ _ _ _ _ c.in_ok-pay.ensures ∙ then_gave _ _ _ _ _ _ _ _ _ (c.in_ok-value.ensures.meant fits) ∙ ap (watched _ _ _) (wanted_good _ _ _ (sym c.in-Good.is ∙ c.way_of.ensures)) ∙ gives _ _ _ _ _ _ _ c.into_content.ensures refl

pub control::evaluate_unwrap-returns-in-Bad-clause-meant : goal.control::evaluate_unwrap-returns-in-Bad-clause-meant
control::evaluate_unwrap-returns-in-Bad-clause-meant g t c fits =
    ends_so _ _ _ _ _ _ (ap (watched _ _ _) (Forms.unwrap_at _ _ _ _ c.requires.fit _ c.index-codes-0.is _ c.index-codes-1.is) ∙ charge_within _ _ _ _ _ _ _ c.in_ok-pay.ensures ∙ then_gave _ _ _ _ _ _ _ _ _ (c.in_ok-value.ensures.meant fits) ∙ ap (watched _ _ _) (wanted_bad _ _ _ (sym c.in-Bad.is ∙ c.way_of.ensures))) (c.evaluate_thrown.ensures.meant fits)

pub control::evaluate_unwrap-returns-in-Neither-clause-meant : goal.control::evaluate_unwrap-returns-in-Neither-clause-meant
control::evaluate_unwrap-returns-in-Neither-clause-meant g t c fits = ap (watched _ _ _) (Forms.unwrap_at _ _ _ _ c.requires.fit _ c.index-codes-0.is _ c.index-codes-1.is) ∙ charge_within _ _ _ _ _ _ _ c.in_ok-pay.ensures ∙ then_gave _ _ _ _ _ _ _ _ _ (c.in_ok-value.ensures.meant fits) ∙ ap (watched _ _ _) (wanted_neither _ _ _ (sym c.in-Neither.is ∙ c.way_of.ensures)) ∙ watched-stop _ _ _ _ _

pub control::evaluate_unwrap_err-returns-in_err-pay-clause-meant : goal.control::evaluate_unwrap_err-returns-in_err-pay-clause-meant
control::evaluate_unwrap_err-returns-in_err-pay-clause-meant g t c fits = pay_fails _ _ c.in_err-pay.field-0.0 _ _ _ _ _ _ _ _ (err_from_is_err_and c.from_residual.result c.from_residual.ensures.1) (ap (watched _ _ _) (Forms.unwrap_err_at _ _ _ _ c.requires.fit _ c.index-codes-0.is _ c.index-codes-1.is)) c.in_err-pay.ensures

pub control::evaluate_unwrap_err-returns-in_err-value-clause-meant : goal.control::evaluate_unwrap_err-returns-in_err-value-clause-meant
control::evaluate_unwrap_err-returns-in_err-value-clause-meant g t c fits =
    part_fails _ _ c.in_err-value.field-0.0 _ _ _ _ _ _ _ _ (err_from_is_err_and c.from_residual-in_err-value.result c.from_residual-in_err-value.ensures.1) (ap (watched _ _ _) (Forms.unwrap_err_at _ _ _ _ c.requires.fit _ c.index-codes-0.is _ c.index-codes-1.is) ∙ charge_within _ _ _ _ _ _ _ c.in_ok-pay.ensures) (c.in_err-value.ensures.meant fits)

pub control::evaluate_unwrap_err-returns-in-Good-clause-meant : goal.control::evaluate_unwrap_err-returns-in-Good-clause-meant
control::evaluate_unwrap_err-returns-in-Good-clause-meant g t c fits =
    ap (watched _ _ _) (Forms.unwrap_err_at _ _ _ _ c.requires.fit _ c.index-codes-0.is _ c.index-codes-1.is) ∙ charge_within _ _ _ _ _ _ _ c.in_ok-pay.ensures ∙ then_gave _ _ _ _ _ _ _ _ _ (c.in_ok-value.ensures.meant fits) ∙ ap (watched _ _ _) (err_good _ _ _ (sym c.in-Good.is ∙ c.err_way_of.ensures)) ∙ gives _ _ _ _ _ _ _ c.into_content.ensures refl

pub control::evaluate_unwrap_err-returns-in-Bad-clause-meant : goal.control::evaluate_unwrap_err-returns-in-Bad-clause-meant
control::evaluate_unwrap_err-returns-in-Bad-clause-meant g t c fits =
    ends_so _ _ _ _ _ _ (ap (watched _ _ _) (Forms.unwrap_err_at _ _ _ _ c.requires.fit _ c.index-codes-0.is _ c.index-codes-1.is) ∙ charge_within _ _ _ _ _ _ _ c.in_ok-pay.ensures ∙ then_gave _ _ _ _ _ _ _ _ _ (c.in_ok-value.ensures.meant fits) ∙ ap (watched _ _ _) (err_bad _ _ _ (sym c.in-Bad.is ∙ c.err_way_of.ensures))) (c.evaluate_thrown.ensures.meant fits)

pub control::evaluate_unwrap_err-returns-in-Neither-clause-meant : goal.control::evaluate_unwrap_err-returns-in-Neither-clause-meant
control::evaluate_unwrap_err-returns-in-Neither-clause-meant g t c fits =
    ap (watched _ _ _) (Forms.unwrap_err_at _ _ _ _ c.requires.fit _ c.index-codes-0.is _ c.index-codes-1.is) ∙ charge_within _ _ _ _ _ _ _ c.in_ok-pay.ensures ∙ then_gave _ _ _ _ _ _ _ _ _ (c.in_ok-value.ensures.meant fits) ∙ ap (watched _ _ _) (err_neither _ _ _ (sym c.in-Neither.is ∙ c.err_way_of.ensures)) ∙ watched-stop _ _ _ _ _

pub control::evaluate_try-returns-in_err-pay-clause-meant : goal.control::evaluate_try-returns-in_err-pay-clause-meant
control::evaluate_try-returns-in_err-pay-clause-meant g t c fits = pay_fails _ _ c.in_err-pay.field-0.0 _ _ _ _ _ _ _ _ (err_from_is_err_and c.from_residual.result c.from_residual.ensures.1) (ap (watched _ _ _) (Forms.try_at _ _ _ _ c.requires.fit _ c.index-codes-0.is)) c.in_err-pay.ensures

pub control::evaluate_try-returns-in_err-value-clause-meant : goal.control::evaluate_try-returns-in_err-value-clause-meant
control::evaluate_try-returns-in_err-value-clause-meant g t c fits = part_fails _ _ c.in_err-value.field-0.0 _ _ _ _ _ _ _ _ (err_from_is_err_and c.from_residual-in_err-value.result c.from_residual-in_err-value.ensures.1) (ap (watched _ _ _) (Forms.try_at _ _ _ _ c.requires.fit _ c.index-codes-0.is) ∙ charge_within _ _ _ _ _ _ _ c.in_ok-pay.ensures) (c.in_err-value.ensures.meant fits)

pub control::evaluate_try-returns-clause-meant : goal.control::evaluate_try-returns-clause-meant
control::evaluate_try-returns-clause-meant g t c fits = ends_so _ _ _ _ _ _ (ap (watched _ _ _) (Forms.try_at _ _ _ _ c.requires.fit _ c.index-codes-0.is) ∙ charge_within _ _ _ _ _ _ _ c.in_ok-pay.ensures ∙ then_gave _ _ _ _ _ _ _ _ _ (c.in_ok-value.ensures.meant fits)) (unseen_ends _ _ _ _ _ _ _ (tried_unseen _ _ _ _) (c.tried.ensures _ _ _))

pub control::evaluate_as_contract-returns-in_err-pay-clause-meant : goal.control::evaluate_as_contract-returns-in_err-pay-clause-meant
control::evaluate_as_contract-returns-in_err-pay-clause-meant g t c fits = pay_fails _ _ c.in_err-pay.field-0.0 _ _ _ _ _ _ _ _ (err_from_is_err_and c.from_residual.result c.from_residual.ensures.1) (ap (watched _ _ _) (Forms.as_contract_at _ _ _ _ c.requires.fit _ c.index-codes-0.is)) c.in_err-pay.ensures

pub control::evaluate_as_contract-returns-clause-meant : goal.control::evaluate_as_contract-returns-clause-meant
control::evaluate_as_contract-returns-clause-meant g t c fits =
    ends_so _ _ _ _ _ _ (ap (watched _ _ _) (Forms.as_contract_at _ _ _ _ c.requires.fit _ c.index-codes-0.is) ∙ charge_within _ _ _ _ _ _ _ c.in_ok-pay.ensures ∙ Loops.in_another (costs_of c.args.context.now) c.pay.new.meter (g.W.Watch.seen c.args.watch.now) c.args.below (scope c.args.context.now c.args.names.now) (as_contract (frame_seen c.args.context.now.frame.now)) (frame_seen c.as_contract-frame.result) _ _ c.as_contract-frame.ensures) (c.evaluate.ensures.meant (Loops.same_home _ _ _ _ _ (ap (λ (F : Frame). F.contract) c.as_contract-frame.ensures) fits))

pub control::evaluate_print-returns-in_err-value-clause-meant : goal.control::evaluate_print-returns-in_err-value-clause-meant
control::evaluate_print-returns-in_err-value-clause-meant g t c fits = part_fails _ _ c.in_err-value.field-0.0 _ _ _ _ _ _ _ _ (err_from_is_err_and c.from_residual.result c.from_residual.ensures.1) (ap (watched _ _ _) (Forms.print_at _ _ _ _ c.requires.fit _ c.index-codes-0.is)) (c.in_err-value.ensures.meant fits)

pub control::evaluate_print-returns-clause-meant : goal.control::evaluate_print-returns-clause-meant
control::evaluate_print-returns-clause-meant g t c fits = ends_so _ _ _ _ _ _ (ap (watched _ _ _) (Forms.print_at _ _ _ _ c.requires.fit _ c.index-codes-0.is) ∙ then_gave _ _ _ _ _ _ _ _ _ (c.in_ok-value.ensures.meant fits)) (unseen_ends _ _ _ _ _ _ _ (printed_unseen (frame_seen c.args.context.now.frame.now) _ _ _ _) c.print.ensures.meant)

pub control::evaluate_begin-returns-in_err-pay-clause-meant : goal.control::evaluate_begin-returns-in_err-pay-clause-meant
control::evaluate_begin-returns-in_err-pay-clause-meant g t c fits = pay_fails _ _ c.in_err-pay.field-0.0 _ _ _ _ _ _ _ _ (err_from_is_err_and c.from_residual.result c.from_residual.ensures.1) (ap (watched _ _ _) (begin_at _ _ _ _ _ refl)) c.in_err-pay.ensures

pub control::evaluate_begin-returns-in_err-values-clause-meant : goal.control::evaluate_begin-returns-in_err-values-clause-meant
control::evaluate_begin-returns-in_err-values-clause-meant g t c fits = part_fails _ _ c.in_err-values.field-0.0 _ _ _ _ _ _ _ _ (err_from_is_err_and c.from_residual-in_err-values.result c.from_residual-in_err-values.ensures.1) (ap (watched _ _ _) (begin_at _ _ _ _ _ refl) ∙ charge_within _ _ _ _ _ _ _ c.in_ok-pay.ensures) (c.in_err-values.ensures.meant fits)

pub control::evaluate_begin-returns-clause-meant : goal.control::evaluate_begin-returns-clause-meant
control::evaluate_begin-returns-clause-meant g t c fits = ends_so _ _ _ _ _ _ (ap (watched _ _ _) (begin_at _ _ _ _ _ refl) ∙ charge_within _ _ _ _ _ _ _ c.in_ok-pay.ensures ∙ then_gave _ _ _ _ _ _ _ _ _ (c.in_ok-values.ensures.meant fits)) (unseen_ends (costs_of c.args.context.now) c.evaluate_parts.new.meter _ _ _ _ c.evaluate_parts.new.world.stack.top (last_unseen c.in_ok-values.values.items c.evaluate_parts.new.world.stack.top _ _) (c.last.ensures (costs_of c.args.context.now) c.evaluate_parts.new.meter c.evaluate_parts.new.world.stack.top))

pub control::evaluate_and-returns-in_err-pay-clause-meant : goal.control::evaluate_and-returns-in_err-pay-clause-meant
control::evaluate_and-returns-in_err-pay-clause-meant g t c fits =
    let some : length c.args.codes.now ≢ 0 = omega (arith, c.requires.some) in
    pay_fails _ _ c.in_err-pay.field-0.0 _ _ _ _ _ _ _ _ (err_from_is_err_and c.from_residual.result c.from_residual.ensures.1) (ap (watched _ _ _) (Forms.and_at _ _ c.args.codes.now _ _ some refl)) c.in_err-pay.ensures

pub control::evaluate_and-returns-clause-meant : goal.control::evaluate_and-returns-clause-meant
control::evaluate_and-returns-clause-meant g t c fits =
    let some : length c.args.codes.now ≢ 0 = omega (arith, c.requires.some) in
    ends_so _ _ _ _ _ _ (ap (watched _ _ _) (Forms.and_at _ _ c.args.codes.now _ _ some refl) ∙ charge_within _ _ _ _ _ _ _ c.in_ok-pay.ensures) (c.and_parts.ensures.meant fits)

pub control::and_parts-returns-in_err-holds-clause-meant : goal.control::and_parts-returns-in_err-holds-clause-meant
control::and_parts-returns-in_err-holds-clause-meant g t c fits =
    let here : c.loop-code.code-index < length c.args.codes.now = c.loop-code-test.true in
    hands_on _ _ c.in_err-holds.field-0.0 _ _ _ (err_from_is_err_and c.from_residual.result c.from_residual.ensures.1)
    (stops_eq _ _ _ _ _ _ (c.loop-code.invariant.so_far fits ∙ Loops.and_next _ _ _ _ _ _ _ _ _ here c.code-item.is) (choice_stops _ _ _ _ _ _ _ _ _ _ (c.in_err-holds.ensures.meant fits)))

pub control::and_parts-returns-in-Some-clause-meant : goal.control::and_parts-returns-in-Some-clause-meant
control::and_parts-returns-in-Some-clause-meant g t c fits =
    let here : c.loop-code.code-index < length c.args.codes.now = c.loop-code-test.true in
    c.loop-code.invariant.so_far fits ∙ Loops.and_next _ _ _ _ _ _ _ _ _ here c.code-item.is
    ∙ chose_by _ _ _ _ _ _ _ _ _ _ (c.in_ok-holds.ensures.meant fits) ∙ ap (watched _ _ _) (sym (c.in-Some.ensures _ _)) ∙ gives _ _ _ _ _ _ _ refl refl

pub control::and_parts-loop-code-preserved : goal.control::and_parts-loop-code-preserved
control::and_parts-loop-code-preserved g t c = record {
  so_far = λ fits.
      let here : c.loop-code.code-index < length c.args.codes.now = c.loop-code-test.true in
      c.loop-code.invariant.so_far fits ∙ Loops.and_next _ _ _ _ _ _ _ _ _ here c.code-item.is
      ∙ chose_by _ _ _ _ _ _ _ _ _ _ (c.in_ok-holds.ensures.meant fits) ∙ ap (watched _ _ _) (sym (c.in_default.ensures _ _));
  below = c.in_ok-holds.ensures.below ∙ c.loop-code.invariant.below;
  grew = still_less _ _ _ c.loop-code.invariant.grew c.in_ok-holds.ensures.grew;
}

pub control::and_parts-returns-clause-meant : goal.control::and_parts-returns-clause-meant
control::and_parts-returns-clause-meant g t c fits =
    let past : length c.args.codes.now ≤ c.loop-code.code-index = c.loop-code-test.false in
    c.loop-code.invariant.so_far fits ∙ Loops.and_end _ _ _ _ _ _ _ _ past ∙ gives _ _ _ _ _ _ _ c.bool_value.ensures refl

pub control::evaluate_or-returns-in_err-pay-clause-meant : goal.control::evaluate_or-returns-in_err-pay-clause-meant
control::evaluate_or-returns-in_err-pay-clause-meant g t c fits =
    let some : length c.args.codes.now ≢ 0 = omega (arith, c.requires.some) in
    pay_fails _ _ c.in_err-pay.field-0.0 _ _ _ _ _ _ _ _ (err_from_is_err_and c.from_residual.result c.from_residual.ensures.1) (ap (watched _ _ _) (Forms.or_at _ _ c.args.codes.now _ _ some refl)) c.in_err-pay.ensures

pub control::evaluate_or-returns-clause-meant : goal.control::evaluate_or-returns-clause-meant
control::evaluate_or-returns-clause-meant g t c fits =
    let some : length c.args.codes.now ≢ 0 = omega (arith, c.requires.some) in
    ends_so _ _ _ _ _ _ (ap (watched _ _ _) (Forms.or_at _ _ c.args.codes.now _ _ some refl) ∙ charge_within _ _ _ _ _ _ _ c.in_ok-pay.ensures) (c.or_parts.ensures.meant fits)

pub control::or_parts-returns-in_err-holds-clause-meant : goal.control::or_parts-returns-in_err-holds-clause-meant
control::or_parts-returns-in_err-holds-clause-meant g t c fits =
    let here : c.loop-code.code-index < length c.args.codes.now = c.loop-code-test.true in
    hands_on _ _ c.in_err-holds.field-0.0 _ _ _ (err_from_is_err_and c.from_residual.result c.from_residual.ensures.1)
    (stops_eq _ _ _ _ _ _ (c.loop-code.invariant.so_far fits ∙ Loops.or_next _ _ _ _ _ _ _ _ _ here c.code-item.is) (choice_stops _ _ _ _ _ _ _ _ _ _ (c.in_err-holds.ensures.meant fits)))

pub control::or_parts-returns-in-Some-clause-meant : goal.control::or_parts-returns-in-Some-clause-meant
control::or_parts-returns-in-Some-clause-meant g t c fits =
    let here : c.loop-code.code-index < length c.args.codes.now = c.loop-code-test.true in
    c.loop-code.invariant.so_far fits ∙ Loops.or_next _ _ _ _ _ _ _ _ _ here c.code-item.is
    ∙ chose_by _ _ _ _ _ _ _ _ _ _ (c.in_ok-holds.ensures.meant fits) ∙ ap (watched _ _ _) (sym (c.in-Some.ensures _ _)) ∙ gives _ _ _ _ _ _ _ refl refl

pub control::or_parts-loop-code-preserved : goal.control::or_parts-loop-code-preserved
control::or_parts-loop-code-preserved g t c = record {
  so_far = λ fits.
      let here : c.loop-code.code-index < length c.args.codes.now = c.loop-code-test.true in
      c.loop-code.invariant.so_far fits ∙ Loops.or_next _ _ _ _ _ _ _ _ _ here c.code-item.is
      ∙ chose_by _ _ _ _ _ _ _ _ _ _ (c.in_ok-holds.ensures.meant fits) ∙ ap (watched _ _ _) (sym (c.in_default.ensures _ _));
  below = c.in_ok-holds.ensures.below ∙ c.loop-code.invariant.below;
  grew = still_less _ _ _ c.loop-code.invariant.grew c.in_ok-holds.ensures.grew;
}

pub control::or_parts-returns-clause-meant : goal.control::or_parts-returns-clause-meant
control::or_parts-returns-clause-meant g t c fits =
    let past : length c.args.codes.now ≤ c.loop-code.code-index = c.loop-code-test.false in
    c.loop-code.invariant.so_far fits ∙ Loops.or_end _ _ _ _ _ _ _ _ past ∙ gives _ _ _ _ _ _ _ c.bool_value.ensures refl

pub scopes::evaluate_match_optional-returns-in_err-pay-clause-meant : goal.scopes::evaluate_match_optional-returns-in_err-pay-clause-meant
scopes::evaluate_match_optional-returns-in_err-pay-clause-meant g t c fits = pay_fails _ _ c.in_err-pay.field-0.0 _ _ _ _ _ _ _ _ (err_from_is_err_and c.from_residual.result c.from_residual.ensures.1) (ap (watched _ _ _) (Lets.optional_at _ _ _ _ _ c.requires.fit _ c.index-codes-0.is _ c.index-codes-1.is _ c.index-codes-2.is)) c.in_err-pay.ensures

pub scopes::evaluate_match_optional-returns-in_err-value-clause-meant : goal.scopes::evaluate_match_optional-returns-in_err-value-clause-meant
scopes::evaluate_match_optional-returns-in_err-value-clause-meant g t c fits =
    part_fails _ _ c.in_err-value.field-0.0 _ _ _ _ _ _ _ _ (err_from_is_err_and c.from_residual-in_err-value.result c.from_residual-in_err-value.ensures.1) (ap (watched _ _ _) (Lets.optional_at _ _ _ _ _ c.requires.fit _ c.index-codes-0.is _ c.index-codes-1.is _ c.index-codes-2.is) ∙ charge_within _ _ _ _ _ _ _ c.in_ok-pay.ensures) (c.in_err-value.ensures.meant fits)

pub scopes::evaluate_match_optional-returns-in-Good-clause-meant : goal.scopes::evaluate_match_optional-returns-in-Good-clause-meant
scopes::evaluate_match_optional-returns-in-Good-clause-meant g t c fits =
    ends_so _ _ _ _ _ _ (ap (watched _ _ _) (Lets.optional_at _ _ _ _ _ c.requires.fit _ c.index-codes-0.is _ c.index-codes-1.is _ c.index-codes-2.is) ∙ charge_within _ _ _ _ _ _ _ c.in_ok-pay.ensures ∙ then_gave _ _ _ _ _ _ _ _ _ (c.in_ok-value.ensures.meant fits) ∙ ap (watched _ _ _) (Lets.some_branch (means c.args.below) (scope c.args.context.now c.args.names.now) c.args.part.now.name (expression_of c.index-codes-1.result) (expression_of c.index-codes-2.result) _ _ _ (sym c.in-Good.is ∙ c.optional_way_of.ensures) c.into_content-inner.ensures)) (c.evaluate_with.ensures.meant fits)

pub scopes::evaluate_match_optional-returns-in-Bad-clause-meant : goal.scopes::evaluate_match_optional-returns-in-Bad-clause-meant
scopes::evaluate_match_optional-returns-in-Bad-clause-meant g t c fits =
    ends_so _ _ _ _ _ _ (ap (watched _ _ _) (Lets.optional_at _ _ _ _ _ c.requires.fit _ c.index-codes-0.is _ c.index-codes-1.is _ c.index-codes-2.is) ∙ charge_within _ _ _ _ _ _ _ c.in_ok-pay.ensures ∙ then_gave _ _ _ _ _ _ _ _ _ (c.in_ok-value.ensures.meant fits) ∙ ap (watched _ _ _) (Lets.none_branch (means c.args.below) (scope c.args.context.now c.args.names.now) c.args.part.now.name (expression_of c.index-codes-1.result) (expression_of c.index-codes-2.result) _ _ (sym c.in-Bad.is ∙ c.optional_way_of.ensures))) (c.evaluate-in-Bad.ensures.meant fits)

pub scopes::evaluate_match_optional-returns-in-Neither-clause-meant : goal.scopes::evaluate_match_optional-returns-in-Neither-clause-meant
scopes::evaluate_match_optional-returns-in-Neither-clause-meant g t c fits =
    ap (watched _ _ _) (Lets.optional_at _ _ _ _ _ c.requires.fit _ c.index-codes-0.is _ c.index-codes-1.is _ c.index-codes-2.is) ∙ charge_within _ _ _ _ _ _ _ c.in_ok-pay.ensures ∙ then_gave _ _ _ _ _ _ _ _ _ (c.in_ok-value.ensures.meant fits) ∙ ap (watched _ _ _) (Lets.no_optional (means c.args.below) (scope c.args.context.now c.args.names.now) c.args.part.now.name (expression_of c.index-codes-1.result) (expression_of c.index-codes-2.result) _ _ (sym c.in-Neither.is ∙ c.optional_way_of.ensures)) ∙ watched-stop _ _ _ _ _

pub scopes::evaluate_match_response-returns-in_err-pay-clause-meant : goal.scopes::evaluate_match_response-returns-in_err-pay-clause-meant
scopes::evaluate_match_response-returns-in_err-pay-clause-meant g t c fits = pay_fails _ _ c.in_err-pay.field-0.0 _ _ _ _ _ _ _ _ (err_from_is_err_and c.from_residual.result c.from_residual.ensures.1) (ap (watched _ _ _) (Lets.response_at _ _ _ _ _ _ c.requires.fit _ c.index-codes-0.is _ c.index-codes-1.is _ c.index-codes-2.is)) c.in_err-pay.ensures

pub scopes::evaluate_match_response-returns-in_err-value-clause-meant : goal.scopes::evaluate_match_response-returns-in_err-value-clause-meant
scopes::evaluate_match_response-returns-in_err-value-clause-meant g t c fits =
    part_fails _ _ c.in_err-value.field-0.0 _ _ _ _ _ _ _ _ (err_from_is_err_and c.from_residual-in_err-value.result c.from_residual-in_err-value.ensures.1) (ap (watched _ _ _) (Lets.response_at _ _ _ _ _ _ c.requires.fit _ c.index-codes-0.is _ c.index-codes-1.is _ c.index-codes-2.is) ∙ charge_within _ _ _ _ _ _ _ c.in_ok-pay.ensures) (c.in_err-value.ensures.meant fits)

pub scopes::evaluate_match_response-returns-in-Good-clause-meant : goal.scopes::evaluate_match_response-returns-in-Good-clause-meant
scopes::evaluate_match_response-returns-in-Good-clause-meant g t c fits =
    ends_so _ _ _ _ _ _ (ap (watched _ _ _) (Lets.response_at _ _ _ _ _ _ c.requires.fit _ c.index-codes-0.is _ c.index-codes-1.is _ c.index-codes-2.is) ∙ charge_within _ _ _ _ _ _ _ c.in_ok-pay.ensures ∙ then_gave _ _ _ _ _ _ _ _ _ (c.in_ok-value.ensures.meant fits) ∙ ap (watched _ _ _) (Lets.ok_branch (means c.args.below) (scope c.args.context.now c.args.names.now) c.args.good.now.name (expression_of c.index-codes-1.result) c.args.bad.now.name (expression_of c.index-codes-2.result) _ _ _ (sym c.in-Good.is ∙ c.response_way_of.ensures) c.into_content-inner.ensures)) (c.evaluate_with.ensures.meant fits)

pub scopes::evaluate_match_response-returns-in-Bad-clause-meant : goal.scopes::evaluate_match_response-returns-in-Bad-clause-meant
scopes::evaluate_match_response-returns-in-Bad-clause-meant g t c fits =
    ends_so _ _ _ _ _ _ (ap (watched _ _ _) (Lets.response_at _ _ _ _ _ _ c.requires.fit _ c.index-codes-0.is _ c.index-codes-1.is _ c.index-codes-2.is) ∙ charge_within _ _ _ _ _ _ _ c.in_ok-pay.ensures ∙ then_gave _ _ _ _ _ _ _ _ _ (c.in_ok-value.ensures.meant fits) ∙ ap (watched _ _ _) (Lets.err_branch (means c.args.below) (scope c.args.context.now c.args.names.now) c.args.good.now.name (expression_of c.index-codes-1.result) c.args.bad.now.name (expression_of c.index-codes-2.result) _ _ _ (sym c.in-Bad.is ∙ c.response_way_of.ensures) c.into_content-inner-in-Bad.ensures)) (c.evaluate_with-in-Bad.ensures.meant fits)

pub scopes::evaluate_match_response-returns-in-Neither-clause-meant : goal.scopes::evaluate_match_response-returns-in-Neither-clause-meant
scopes::evaluate_match_response-returns-in-Neither-clause-meant g t c fits =
    ap (watched _ _ _) (Lets.response_at _ _ _ _ _ _ c.requires.fit _ c.index-codes-0.is _ c.index-codes-1.is _ c.index-codes-2.is) ∙ charge_within _ _ _ _ _ _ _ c.in_ok-pay.ensures ∙ then_gave _ _ _ _ _ _ _ _ _ (c.in_ok-value.ensures.meant fits) ∙ ap (watched _ _ _) (Lets.no_response (means c.args.below) (scope c.args.context.now c.args.names.now) c.args.good.now.name (expression_of c.index-codes-1.result) c.args.bad.now.name (expression_of c.index-codes-2.result) _ _ (sym c.in-Neither.is ∙ c.response_way_of.ensures)) ∙ watched-stop _ _ _ _ _

pub scopes::evaluate_with-returns-in_err-pay_for-clause-meant : goal.scopes::evaluate_with-returns-in_err-pay_for-clause-meant
scopes::evaluate_with-returns-in_err-pay_for-clause-meant g t c fits = pay_fails _ _ c.in_err-pay_for.field-0.0 _ _ _ _ _ _ _ _ (err_from_is_err_and c.from_residual.result c.from_residual.ensures.1) refl c.in_err-pay_for.ensures

pub scopes::evaluate_with-returns-clause-meant : goal.scopes::evaluate_with-returns-clause-meant
scopes::evaluate_with-returns-clause-meant g t c fits =
    ends_so _ _ _ _ _ _ (charge_within _ _ _ _ _ _ _ c.in_ok-pay_for.ensures ∙ Lets.bound_in (costs_of c.args.context.now) _ _ (means c.args.below) (scope c.args.context.now c.args.names.now) c.args.names.now.values _ _ _ _ _ c.with_one-inner.ensures) (c.evaluate.ensures.meant fits)

pub scopes::evaluate_in-returns-clause-meant : goal.scopes::evaluate_in-returns-clause-meant
scopes::evaluate_in-returns-clause-meant g t c fits = ends_so _ _ _ _ _ _ (ap (λ b. watched (costs_of c.args.context.now) c.args.meter.now (g.W.Watch.seen c.args.watch.now) (means c.args.below (scope_of c.args.context.now b) (expression_of c.args.code.now) c.args.world.now.stack.top)) (sym c.within-inner.ensures)) (c.evaluate.ensures.meant fits)

pub scopes::evaluate_let-returns-in_err-pay-clause-meant : goal.scopes::evaluate_let-returns-in_err-pay-clause-meant
scopes::evaluate_let-returns-in_err-pay-clause-meant g t c at fits =
    let few : length c.args.bindings.now < length c.args.codes.now = c.requires.fit in
    pay_fails _ _ c.in_err-pay.field-0.0 _ _ _ _ _ _ _ _ (err_from_is_err_and c.from_residual.result c.from_residual.ensures.1) (ap (watched _ _ _) (Lets.let_at _ _ c.args.bindings.now c.args.codes.now at _ _ few (omega arith))) c.in_err-pay.ensures

pub scopes::evaluate_let-returns-in_err-own-clause-meant : goal.scopes::evaluate_let-returns-in_err-own-clause-meant
scopes::evaluate_let-returns-in_err-own-clause-meant g t c at fits =
    let few : length c.args.bindings.now < length c.args.codes.now = c.requires.fit in
    hands_on _ _ c.in_err-own.field-0.0 _ _ _ (err_from_is_err_and c.from_residual-in_err-own.result c.from_residual-in_err-own.ensures.1) (stops_eq _ _ _ _ _ _ (ap (watched _ _ _) (Lets.let_at _ _ c.args.bindings.now c.args.codes.now at _ _ few (omega arith)) ∙ charge_within _ _ _ _ _ _ _ c.in_ok-pay.ensures) (c.in_err-own.ensures.meant _ fits))

pub scopes::evaluate_let-returns-in_err-values-clause-meant : goal.scopes::evaluate_let-returns-in_err-values-clause-meant
scopes::evaluate_let-returns-in_err-values-clause-meant g t c at fits =
    let few : length c.args.bindings.now < length c.args.codes.now = c.requires.fit in
    part_fails _ _ c.in_err-values.field-0.0 _ _ _ _ _ _ _ _ (err_from_is_err_and c.from_residual-in_err-values.result c.from_residual-in_err-values.ensures.1) (ap (watched _ _ _) (Lets.let_at _ _ c.args.bindings.now c.args.codes.now at _ _ few (omega arith)) ∙ charge_within _ _ _ _ _ _ _ c.in_ok-pay.ensures ∙ c.in_ok-own.ensures.meant _ fits ∙ Lets.let_rest _ _ _ (means c.args.below) (scope c.args.context.now c.args.names.now) c.args.names.now.values (length c.args.bindings.now) c.args.codes.now _ _ _ _ c.within-inner.ensures c.deref.ensures.value) (c.in_err-values.ensures.meant fits)

pub scopes::evaluate_let-returns-clause-meant : goal.scopes::evaluate_let-returns-clause-meant
scopes::evaluate_let-returns-clause-meant g t c at fits =
    let few : length c.args.bindings.now < length c.args.codes.now = c.requires.fit in
    ends_so _ _ _ _ _ _ (ap (watched _ _ _) (Lets.let_at _ _ c.args.bindings.now c.args.codes.now at _ _ few (omega arith)) ∙ charge_within _ _ _ _ _ _ _ c.in_ok-pay.ensures ∙ c.in_ok-own.ensures.meant _ fits ∙ Lets.let_rest _ _ _ (means c.args.below) (scope c.args.context.now c.args.names.now) c.args.names.now.values (length c.args.bindings.now) c.args.codes.now _ _ _ _ c.within-inner.ensures c.deref.ensures.value ∙ then_gave _ _ _ _ _ _ _ _ _ (c.in_ok-values.ensures.meant fits)) (unseen_ends (costs_of c.args.context.now) c.evaluate_parts.new.meter _ _ _ _ c.evaluate_parts.new.world.stack.top (last_unseen c.in_ok-values.values.items c.evaluate_parts.new.world.stack.top _ _) (c.last.ensures (costs_of c.args.context.now) c.evaluate_parts.new.meter c.evaluate_parts.new.world.stack.top))

pub scopes::evaluate_bindings-returns-in_err-value-clause-meant : goal.scopes::evaluate_bindings-returns-in_err-value-clause-meant
scopes::evaluate_bindings-returns-in_err-value-clause-meant g t c body fits =
    let here : c.loop-binding.binding-index < length c.args.bindings.now = c.loop-binding-test.true in
    Lets.binds_not _ _ _ (λ own. scope_of c.args.context.now (c.args.names.now.values ++ own)) _ _ c.in_err-value.field-0.0 _ _ _ (err_from_is_err_and c.from_residual-in_err-value.result c.from_residual-in_err-value.ensures.1) (stops_eq _ _ _ _ _ _ (c.loop-binding.invariant.so_far body fits ∙ Lets.let_next (costs_of c.args.context.now) c.loop-binding.meter (g.W.Watch.seen c.loop-binding.watch) (means c.args.below) body (scope c.args.context.now c.args.names.now) c.args.names.now.values c.args.bindings.now c.args.codes.now c.loop-binding.binding-index c.loop-binding.place _ _ c.loop-binding.world.stack.top c.loop-binding.own.items _ _ refl c.deref.ensures.value c.loop-binding.invariant.at here c.requires.fit c.binding-item.is c.index-codes-place.is) (stops_then _ _ _ _ _ _ _ _ _ (c.in_err-value.ensures.meant fits)))

pub scopes::evaluate_bindings-returns-in_err-pay_for-clause-meant : goal.scopes::evaluate_bindings-returns-in_err-pay_for-clause-meant
scopes::evaluate_bindings-returns-in_err-pay_for-clause-meant g t c body fits =
    let here : c.loop-binding.binding-index < length c.args.bindings.now = c.loop-binding-test.true in
    Lets.binds_not _ _ _ (λ own. scope_of c.args.context.now (c.args.names.now.values ++ own)) _ _ c.in_err-pay_for.field-0.0 _ _ _ (err_from_is_err_and c.from_residual-in_err-pay_for.result c.from_residual-in_err-pay_for.ensures.1) (stops_eq _ _ _ _ _ _ (c.loop-binding.invariant.so_far body fits ∙ Lets.let_next (costs_of c.args.context.now) c.loop-binding.meter (g.W.Watch.seen c.loop-binding.watch) (means c.args.below) body (scope c.args.context.now c.args.names.now) c.args.names.now.values c.args.bindings.now c.args.codes.now c.loop-binding.binding-index c.loop-binding.place _ _ c.loop-binding.world.stack.top c.loop-binding.own.items _ _ refl c.deref.ensures.value c.loop-binding.invariant.at here c.requires.fit c.binding-item.is c.index-codes-place.is ∙ then_gave _ _ _ _ _ _ _ _ _ (c.in_ok-value.ensures.meant fits)) (charge_stops _ _ _ _ _ _ _ _ _ c.in_err-pay_for.ensures))

pub scopes::evaluate_bindings-loop-binding-preserved : goal.scopes::evaluate_bindings-loop-binding-preserved
scopes::evaluate_bindings-loop-binding-preserved g t c = record {
  so_far = λ body fits.
      let here : c.loop-binding.binding-index < length c.args.bindings.now = c.loop-binding-test.true in
      c.loop-binding.invariant.so_far body fits ∙ Lets.let_next (costs_of c.args.context.now) c.loop-binding.meter (g.W.Watch.seen c.loop-binding.watch) (means c.args.below) body (scope c.args.context.now c.args.names.now) c.args.names.now.values c.args.bindings.now c.args.codes.now c.loop-binding.binding-index c.loop-binding.place _ _ c.loop-binding.world.stack.top c.loop-binding.own.items _ _ refl c.deref.ensures.value c.loop-binding.invariant.at here c.requires.fit c.binding-item.is c.index-codes-place.is ∙ then_gave _ _ _ _ _ _ _ _ _ (c.in_ok-value.ensures.meant fits) ∙ charge_within _ _ _ _ _ _ _ c.in_ok-pay_for.ensures ∙ Lets.let_bound _ _ _ (means c.args.below) body (scope c.args.context.now c.args.names.now) c.args.names.now.values _ _ _ _ _ _ c.in_ok-push.ensures.items;
  below = c.in_ok-value.ensures.below ∙ c.loop-binding.invariant.below;
  grew = still_less _ _ _ c.loop-binding.invariant.grew c.in_ok-value.ensures.grew;
  at = omega (arith, c.loop-binding.invariant.at);
}

pub scopes::evaluate_bindings-loop-binding-init : goal.scopes::evaluate_bindings-loop-binding-init
scopes::evaluate_bindings-loop-binding-init g t c = record {
  so_far = λ body fits. Lets.let_start _ _ _ (means c.args.below) body (scope c.args.context.now c.args.names.now) c.args.names.now.values _ _ _ c.in_ok-own.ensures.items;
  below = refl;
  grew = no_less _;
  at = refl;
}

pub scopes::evaluate_bindings-returns-clause-meant : goal.scopes::evaluate_bindings-returns-clause-meant
scopes::evaluate_bindings-returns-clause-meant g t c body fits =
    let past : length c.args.bindings.now ≤ c.loop-binding.binding-index = c.loop-binding-test.false in
    c.loop-binding.invariant.so_far body fits ∙ Lets.let_end _ _ _ _ _ _ c.args.bindings.now _ _ _ past

pub calls::evaluate_call-returns-in_err-values-clause-meant : goal.calls::evaluate_call-returns-in_err-values-clause-meant
calls::evaluate_call-returns-in_err-values-clause-meant g t c fits = part_fails _ _ c.in_err-values.field-0.0 _ _ _ _ _ _ _ _ (err_from_is_err_and c.from_residual.result c.from_residual.ensures.1) (ap (watched _ _ _) (call_at _ _ _ _ _ _)) (c.in_err-values.ensures.meant fits)

pub calls::evaluate_call-returns-in-Some-clause-meant : goal.calls::evaluate_call-returns-in-Some-clause-meant
calls::evaluate_call-returns-in-Some-clause-meant g t c fits = ends_so _ _ _ _ _ _ (ap (watched _ _ _) (call_at _ _ _ _ _ _) ∙ then_gave _ _ _ _ _ _ _ _ _ (c.in_ok-values.ensures.meant fits) ∙ known_some _ _ _ _ _ _ _ (sym (c.own_function.ensures.seen c.args.names.now.values fits) ∙ ap (option_map (λ f. function_seen f.now)) c.in-Some.is)) (c.enter.ensures.meant _ fits)

pub calls::evaluate_call-returns-in-None-clause-meant : goal.calls::evaluate_call-returns-in-None-clause-meant
calls::evaluate_call-returns-in-None-clause-meant g t c fits = ap (watched _ _ _) (call_at _ _ _ _ _ _) ∙ then_gave _ _ _ _ _ _ _ _ _ (c.in_ok-values.ensures.meant fits) ∙ known_none _ _ _ _ _ _ (sym (c.own_function.ensures.seen c.args.names.now.values fits) ∙ ap (option_map (λ f. function_seen f.now)) c.in-None.is)

pub calls::enter-returns-then-depth-eq0-clause-meant : goal.calls::enter-returns-then-depth-eq0-clause-meant
calls::enter-returns-then-depth-eq0-clause-meant g t c outer fits = applied_none _ _ _ _ _ _ _ _ c.if-depth-eq0.true

pub calls::enter-returns-in_err-pay-clause-meant : goal.calls::enter-returns-in_err-pay-clause-meant
calls::enter-returns-in_err-pay-clause-meant g t c outer fits = pay_fails _ _ c.in_err-pay.field-0.0 _ _ _ _ _ _ _ _ (err_from_is_err_and c.from_residual.result c.from_residual.ensures.1) (ap (watched _ _ _) (applied_down _ _ _ _ _ _ (positive _ c.if-depth-eq0.false) (omega (arith, c.args.values.ok.0)))) c.in_err-pay.ensures

pub calls::enter-returns-in_err-bind-clause-meant : goal.calls::enter-returns-in_err-bind-clause-meant
calls::enter-returns-in_err-bind-clause-meant g t c outer fits =
    hands_on _ _ c.in_err-bind.field-0.0 _ _ _ (err_from_is_err_and c.from_residual-in_err-bind.result c.from_residual-in_err-bind.ensures.1) (stops_eq _ _ _ _ _ _ (ap (watched _ _ _) (applied_down _ _ _ _ _ _ (positive _ c.if-depth-eq0.false) (omega (arith, c.args.values.ok.0))) ∙ charge_within _ _ _ _ _ _ _ c.in_ok-pay.ensures ∙ given_as _ _ _ _ _ _ _ _ c.as_slice-given.ensures.value) (c.in_err-bind.ensures _ _ _))

pub calls::enter-returns-clause-meant : goal.calls::enter-returns-clause-meant
calls::enter-returns-clause-meant g t c outer fits =
    ends_so _ _ _ _ _ _ (ap (watched _ _ _) (applied_down _ _ _ _ _ _ (positive _ c.if-depth-eq0.false) (omega (arith, c.args.values.ok.0))) ∙ charge_within _ _ _ _ _ _ _ c.in_ok-pay.ensures ∙ given_as _ _ _ _ _ _ _ _ c.as_slice-given.ensures.value ∙ c.in_ok-bind.ensures _ _ _ ∙ Lets.body_bound _ _ _ (means (c.args.depth - 1)) (scope_of c.args.context.now outer) (function_seen c.args.function.now) _ _ _ _ c.of_call-names.ensures refl) (c.evaluate_body.ensures.meant outer fits)

pub calls::evaluate_body-returns-in_ok-push_layer-clause-meant : goal.calls::evaluate_body-returns-in_ok-push_layer-clause-meant
calls::evaluate_body-returns-in_ok-push_layer-clause-meant g t c outer fits =
    let top = ap (λ (s : Stack). s.top) c.in_ok-push_layer.ensures.done in
    let below = c.evaluate-answer.ensures.below ∙ ap (λ (s : Stack). s.below) c.in_ok-push_layer.ensures.done in
    let public = public_one c.args.function.now.access (sym c.is_public.ensures ∙ c.if-is_public.true) in
    ends_so _ _ _ _ _ _
    (ap (λ a. watched (costs_of c.args.context.now) c.args.meter.now (g.W.Watch.seen c.args.watch.now) (and_then (returning (means c.args.below (scope_of c.args.context.now c.args.names.now.values) (expression_of c.args.function.now.body) c.args.world.now.stack.top)) (closing a c.args.world.now.stack.top))) public)
    (public_ends _ _ _ _ _ _ _ _ _ _ _ _
    (returning_ends _ _ _ _ _ _ _ _ _ c.returned.ensures (ends_so _ _ _ _ _ _ (ap (λ s. watched (costs_of c.args.context.now) c.args.meter.now (g.W.Watch.seen c.args.watch.now) (means c.args.below (scope_of c.args.context.now c.args.names.now.values) (expression_of c.args.function.now.body) s)) (sym top)) (c.evaluate-answer.ensures.meant fits)))
    below c.close.ensures)

pub calls::evaluate_body-returns-in_ok-push_layer-clause-below : goal.calls::evaluate_body-returns-in_ok-push_layer-clause-below
calls::evaluate_body-returns-in_ok-push_layer-clause-below g t c =
    let below = c.evaluate-answer.ensures.below ∙ ap (λ (s : Stack). s.below) c.in_ok-push_layer.ensures.done in
    closes_below (costs_of c.args.context.now) c.args.meter.now _ _ _ _ _ _ below c.close.ensures

pub calls::evaluate_body-returns-else-is_public-clause-meant : goal.calls::evaluate_body-returns-else-is_public-clause-meant
calls::evaluate_body-returns-else-is_public-clause-meant g t c outer fits = ends_so _ _ _ _ _ _ (other_ends _ _ _ _ _ _ (sym c.is_public.ensures ∙ c.if-is_public.false)) (returning_ends _ _ _ _ _ _ _ _ _ c.returned-else-is_public.ensures (c.evaluate.ensures.meant fits))

pub tuples::evaluate_as_max_len-returns-in_err-value-clause-meant : goal.tuples::evaluate_as_max_len-returns-in_err-value-clause-meant
tuples::evaluate_as_max_len-returns-in_err-value-clause-meant g t c at fits = part_fails _ _ c.in_err-value.field-0.0 _ _ _ _ _ _ _ _ (err_from_is_err_and c.from_residual.result c.from_residual.ensures.1) (ap (watched _ _ _) (Forms.max_len_at _ _ _ _ _ _ c.requires.fit _ c.index-codes-0.is)) (c.in_err-value.ensures.meant fits)

pub tuples::evaluate_as_max_len-returns-clause-meant : goal.tuples::evaluate_as_max_len-returns-clause-meant
tuples::evaluate_as_max_len-returns-clause-meant g t c at fits = ends_so _ _ _ _ _ _ (ap (watched _ _ _) (Forms.max_len_at _ _ _ _ _ _ c.requires.fit _ c.index-codes-0.is) ∙ then_gave _ _ _ _ _ _ _ _ _ (c.in_ok-value.ensures.meant fits)) (unseen_ends _ _ _ _ _ _ _ (shortened_unseen _ _ _ _ _) (c.shorten.ensures _))

pub walk::evaluate_node-returns-in-AsMaxLen-clause-meant : goal.walk::evaluate_node-returns-in-AsMaxLen-clause-meant
walk::evaluate_node-returns-in-AsMaxLen-clause-meant g t c fits = ends_so _ _ _ _ _ _ (ap (watched _ _ _) (node_is c.args.context.now c.args.names.now.values _ _ _ _ _ _ _ _ _ _ fits c.code.view_is c.requires.goes c.in-AsMaxLen.is c.as_slice-parts.ensures.value)) (c.evaluate_as_max_len.ensures.meant _ fits)

pub walk::evaluate_node-returns-in-ContractCall-clause-meant : goal.walk::evaluate_node-returns-in-ContractCall-clause-meant
walk::evaluate_node-returns-in-ContractCall-clause-meant g t c fits = ends_so _ _ _ _ _ _ (ap (watched _ _ _) (node_is c.args.context.now c.args.names.now.values _ _ _ _ _ _ _ _ _ _ fits c.code.view_is c.requires.goes c.in-ContractCall.is c.as_slice-parts.ensures.value)) (c.evaluate_contract_call.ensures.meant fits)

pub across::evaluate_contract_call-returns-in_err-values-clause-meant : goal.across::evaluate_contract_call-returns-in_err-values-clause-meant
across::evaluate_contract_call-returns-in_err-values-clause-meant g t c fits = part_fails _ _ c.in_err-values.field-0.0 _ _ _ _ _ _ _ _ (err_from_is_err_and c.from_residual.result c.from_residual.ensures.1) (ap (watched _ _ _) (Forms.contract_call_at _ _ _ _ _ _ _)) (c.in_err-values.ensures.meant fits)

pub across::evaluate_contract_call-returns-then-same-clause-meant : goal.across::evaluate_contract_call-returns-then-same-clause-meant
across::evaluate_contract_call-returns-then-same-clause-meant g t c fits = ap (watched _ _ _) (Forms.contract_call_at _ _ _ _ _ _ _) ∙ then_gave _ _ _ _ _ _ _ _ _ (c.in_ok-values.ensures.meant fits) ∙ known_none _ _ _ _ _ _ (HomeLaws.no_other (scope c.args.context.now c.args.names.now) c.args.literal.now _ c.principal_of-principal.ensures (sym c.same.ensures ∙ c.if-same.true))

pub across::evaluate_contract_call-returns-in-Some-clause-meant : goal.across::evaluate_contract_call-returns-in-Some-clause-meant
across::evaluate_contract_call-returns-in-Some-clause-meant g t c fits =
    ends_so _ _ _ _ _ _ (ap (watched _ _ _) (Forms.contract_call_at _ _ _ _ _ _ _) ∙ then_gave _ _ _ _ _ _ _ _ _ (c.in_ok-values.ensures.meant fits) ∙ known_some _ _ _ _ _ _ _ (HomeLaws.another (scope c.args.context.now c.args.names.now) c.args.literal.now _ _ c.principal_of-principal.ensures (sym c.same.ensures ∙ c.if-same.false) (sym c.contract_there.ensures ∙ ap (option_map home_seen) c.in-Some.is))) (c.enter_there.ensures.meant c.args.names.now.values fits (HomeLaws.is_at _ _ _ (sym c.contract_there.ensures ∙ ap (option_map home_seen) c.in-Some.is)))

pub across::evaluate_contract_call-returns-in-None-clause-meant : goal.across::evaluate_contract_call-returns-in-None-clause-meant
across::evaluate_contract_call-returns-in-None-clause-meant g t c fits =
    ap (watched _ _ _) (Forms.contract_call_at _ _ _ _ _ _ _) ∙ then_gave _ _ _ _ _ _ _ _ _ (c.in_ok-values.ensures.meant fits) ∙ known_none _ _ _ _ _ _ (HomeLaws.another (scope c.args.context.now c.args.names.now) c.args.literal.now _ _ c.principal_of-principal.ensures (sym c.same.ensures ∙ c.if-same.false) (sym c.contract_there.ensures ∙ ap (option_map home_seen) c.in-None.is))

pub across::enter_there-returns-in_err-pay-clause-meant : goal.across::enter_there-returns-in_err-pay-clause-meant
across::enter_there-returns-in_err-pay-clause-meant g t c bound fits at = pay_fails_at _ _ c.in_err-pay.field-0.0 _ _ _ _ _ _ _ _ _ (err_from_is_err_and c.from_residual.result c.from_residual.ensures.1) (c.from-length.ensures ∙ ap (λ (q : Parts). q.source_length) c.parts-contract.ensures) refl c.in_err-pay.ensures

pub across::enter_there-returns-in-Some-clause-meant : goal.across::enter_there-returns-in-Some-clause-meant
across::enter_there-returns-in-Some-clause-meant g t c bound fits at =
    ends_so _ _ _ _ _ _ (charge_spent _ _ _ _ _ _ _ _ (c.from-length.ensures ∙ ap (λ (q : Parts). q.source_length) c.parts-contract.ensures) c.in_ok-pay.ensures ∙ known_some _ _ _ _ _ _ _ (sym c.callable.ensures.seen ∙ ap (option_map (λ f. function_seen f.now)) c.in-Some.is) ∙ ap (λ F. watched (costs_of c.args.context.now) c.pay.new.meter (g.W.Watch.seen c.args.watch.now) (applied c.args.below (in_frame F (scope_of c.args.context.now bound)) (OwnFunction (function_seen c.in-Some.function.now)) c.args.values.items c.args.world.now.stack.top)) (sym (c.called-frame.ensures ∙ ap (λ (q : Parts). called q.principal (frame_seen c.args.context.now.frame.now)) c.parts-contract.ensures))) (c.enter.ensures.meant bound (HomeLaws.fits_there c.args.context.now c.args.home.now _ (ap (λ (F : Frame). F.contract) c.called-frame.ensures ∙ ap (λ (q : Parts). q.principal) c.parts-contract.ensures) at fits))

pub across::enter_there-returns-in-None-clause-meant : goal.across::enter_there-returns-in-None-clause-meant
across::enter_there-returns-in-None-clause-meant g t c bound fits at = charge_spent _ _ _ _ _ _ _ _ (c.from-length.ensures ∙ ap (λ (q : Parts). q.source_length) c.parts-contract.ensures) c.in_ok-pay.ensures ∙ known_none _ _ _ _ _ _ (sym c.callable.ensures.seen ∙ ap (option_map (λ f. function_seen f.now)) c.in-None.is)

pub walk::evaluate_node-named-requires : goal.walk::evaluate_node-named-requires
walk::evaluate_node-named-requires g t c = Nodes.no_keyword _ _ c.code.invariant.named c.in-Bound.is

pub walk::evaluate_node-named-requires-in-Constant : goal.walk::evaluate_node-named-requires-in-Constant
walk::evaluate_node-named-requires-in-Constant g t c = Nodes.no_keyword_constant _ _ c.code.invariant.named c.in-Constant.is

pub walk::evaluate_node-returns-in-Tuple-clause-meant : goal.walk::evaluate_node-returns-in-Tuple-clause-meant
walk::evaluate_node-returns-in-Tuple-clause-meant g t c fits = ends_so _ _ _ _ _ _ (ap (watched _ _ _) (node_is c.args.context.now c.args.names.now.values _ _ _ _ _ _ _ _ _ _ fits c.code.view_is c.requires.goes c.in-Tuple.is c.as_slice-parts.ensures.value) ∙ TupleLaws.keys_are _ _ _ _ _ _ _ _ _ c.deref-in-Tuple.ensures.value) (c.evaluate_tuple.ensures.meant fits)

pub walk::evaluate_node-returns-in-TupleOf-clause-meant : goal.walk::evaluate_node-returns-in-TupleOf-clause-meant
walk::evaluate_node-returns-in-TupleOf-clause-meant g t c fits = ends_so _ _ _ _ _ _ (ap (watched _ _ _) (node_is c.args.context.now c.args.names.now.values _ _ _ _ _ _ _ _ _ _ fits c.code.view_is c.requires.goes c.in-TupleOf.is c.as_slice-parts.ensures.value) ∙ TupleLaws.pairs_are _ _ _ _ _ _ _ _ _ c.deref-in-TupleOf.ensures.value) (c.evaluate_tuple_of.ensures.meant fits)

pub walk::evaluate_node-evaluate_tuple-requires : goal.walk::evaluate_node-evaluate_tuple-requires
walk::evaluate_node-evaluate_tuple-requires g t c = λ κs alive. (
  omega (arith, c.decreases),
  (
    alive,
    (
      omega (arith, c.code.invariant.few, ap (λ (l : List Typed). length l) c.as_slice-parts.ensures.value),
      (
        Nodes.tuple_counts _ _ _ _ _ c.code.invariant.fit c.in-Tuple.is c.deref-in-Tuple.ensures.value c.as_slice-parts.ensures.value,
        (
          Nodes.own_keys _ _ _ c.code.invariant.named c.in-Tuple.is c.deref-in-Tuple.ensures.value,
          Going.parts_in c.args.context.now _ _ _ _ _ _ c.code.view_is c.requires.goes c.as_slice-parts.ensures.value,
        ),
      ),
    ),
  ),
)

pub walk::evaluate_node-evaluate_tuple_of-requires : goal.walk::evaluate_node-evaluate_tuple_of-requires
walk::evaluate_node-evaluate_tuple_of-requires g t c = λ κs alive. (
  omega (arith, c.decreases),
  (
    alive,
    (
      omega (arith, c.code.invariant.few, ap (λ (l : List Typed). length l) c.as_slice-parts.ensures.value),
      (
        Nodes.pair_counts _ _ _ _ _ _ c.code.invariant.fit c.in-TupleOf.is c.deref-in-TupleOf.ensures.value c.as_slice-parts.ensures.value,
        (
          Nodes.own_keys_of _ _ _ _ c.code.invariant.named c.in-TupleOf.is c.deref-in-TupleOf.ensures.value,
          Going.parts_in c.args.context.now _ _ _ _ _ _ c.code.view_is c.requires.goes c.as_slice-parts.ensures.value,
        ),
      ),
    ),
  ),
)

pub tuples::evaluate_tuple-returns-then-codes-eq0-clause-meant : goal.tuples::evaluate_tuple-returns-then-codes-eq0-clause-meant
tuples::evaluate_tuple-returns-then-codes-eq0-clause-meant g t c fits =
    let none : length c.args.codes.now ≡ 0 = omega (arith, c.if-codes-eq0.true) in
    TupleLaws.no_tuple _ _ _ _ _ _ _ _ none

pub tuples::evaluate_tuple-returns-in_err-values-clause-meant : goal.tuples::evaluate_tuple-returns-in_err-values-clause-meant
tuples::evaluate_tuple-returns-in_err-values-clause-meant g t c fits =
    let some : length c.args.codes.now ≢ 0 = omega (arith, c.if-codes-eq0.false) in
    part_fails _ _ c.in_err-values.field-0.0 _ _ _ _ _ _ _ _ (err_from_is_err_and c.from_residual.result c.from_residual.ensures.1) (ap (watched _ _ _) (TupleLaws.tuple_at _ _ _ _ _ some c.requires.fit)) (c.in_err-values.ensures.meant fits)

pub tuples::evaluate_tuple-returns-clause-meant : goal.tuples::evaluate_tuple-returns-clause-meant
tuples::evaluate_tuple-returns-clause-meant g t c fits =
    let some : length c.args.codes.now ≢ 0 = omega (arith, c.if-codes-eq0.false) in
    ends_so _ _ _ _ _ _ (ap (watched _ _ _) (TupleLaws.tuple_at _ _ _ _ _ some c.requires.fit) ∙ then_gave _ _ _ _ _ _ _ _ _ (c.in_ok-values.ensures.meant fits)) (unseen_ends (costs_of c.args.context.now) c.evaluate_parts.new.meter _ _ _ _ c.evaluate_parts.new.world.stack.top (tuple_unseen c.args.keys.now c.in_ok-values.values.items c.evaluate_parts.new.world.stack.top _ _) (c.make_tuple.ensures c.evaluate_parts.new.world.stack.top))

pub tuples::evaluate_tuple_of-returns-clause-meant : goal.tuples::evaluate_tuple_of-returns-clause-meant
tuples::evaluate_tuple_of-returns-clause-meant g t c fits = ends_so _ _ _ _ _ _ (TupleLaws.bound_keys _ _ _ _ _ _ _ _ _ _ c.in_ok-keys.ensures c.deref.ensures.value) (c.evaluate_tuple.ensures.meant fits)

pub on_parts::evaluate_on_parts-returns-in-StxBalance-clause-meant : goal.on_parts::evaluate_on_parts-returns-in-StxBalance-clause-meant
on_parts::evaluate_on_parts-returns-in-StxBalance-clause-meant g t c fits = ends_so _ _ _ _ _ _ (ap (watched _ _ _) (Heads.parts_at _ _ _ _ _ _ _ _ c.in-StxBalance.is)) (c.evaluate_stx.ensures.meant fits)

pub on_parts::evaluate_on_parts-returns-in-SendStx-clause-meant : goal.on_parts::evaluate_on_parts-returns-in-SendStx-clause-meant
on_parts::evaluate_on_parts-returns-in-SendStx-clause-meant g t c fits = ends_so _ _ _ _ _ _ (ap (watched _ _ _) (Heads.parts_at _ _ _ _ _ _ _ _ c.in-SendStx.is)) (c.evaluate_send_stx.ensures.meant fits)

pub on_parts::evaluate_on_parts-returns-in-BurnStx-clause-meant : goal.on_parts::evaluate_on_parts-returns-in-BurnStx-clause-meant
on_parts::evaluate_on_parts-returns-in-BurnStx-clause-meant g t c fits = ends_so _ _ _ _ _ _ (ap (watched _ _ _) (Heads.parts_at _ _ _ _ _ _ _ _ c.in-BurnStx.is)) (c.evaluate_burn_stx.ensures.meant fits)

pub stx::evaluate_stx-returns-in_err-value-clause-meant : goal.stx::evaluate_stx-returns-in_err-value-clause-meant
stx::evaluate_stx-returns-in_err-value-clause-meant g t c fits = part_fails _ _ c.in_err-value.field-0.0 _ _ _ _ _ _ _ _ (err_from_is_err_and c.from_residual.result c.from_residual.ensures.1) (ap (watched _ _ _) (Forms.stx_at _ _ _ _ c.requires.fit _ c.index-codes-0.is)) (c.in_err-value.ensures.meant fits)

pub stx::evaluate_stx-returns-clause-meant : goal.stx::evaluate_stx-returns-clause-meant
stx::evaluate_stx-returns-clause-meant g t c fits = ends_so _ _ _ _ _ _ (ap (watched _ _ _) (Forms.stx_at _ _ _ _ c.requires.fit _ c.index-codes-0.is) ∙ then_gave _ _ _ _ _ _ _ _ _ (c.in_ok-value.ensures.meant fits)) (unseen_ends _ _ _ _ _ _ _ (stx_unseen _ _ _ _) c.read_stx.ensures)

pub stx::evaluate_send_stx-returns-in_err-values-clause-meant : goal.stx::evaluate_send_stx-returns-in_err-values-clause-meant
stx::evaluate_send_stx-returns-in_err-values-clause-meant g t c fits = part_fails _ _ c.in_err-values.field-0.0 _ _ _ _ _ _ _ _ (err_from_is_err_and c.from_residual.result c.from_residual.ensures.1) (ap (watched _ _ _) (Forms.send_stx_at _ _ _ _)) (c.in_err-values.ensures.meant fits)

pub stx::evaluate_send_stx-returns-clause-meant : goal.stx::evaluate_send_stx-returns-clause-meant
stx::evaluate_send_stx-returns-clause-meant g t c fits = ends_so _ _ _ _ _ _ (ap (watched _ _ _) (Forms.send_stx_at _ _ _ _) ∙ then_gave _ _ _ _ _ _ _ _ _ (c.in_ok-values.ensures.meant fits)) (unseen_ends _ _ _ _ _ _ _ (token_unseen natives.SendStx (scope c.args.context.now c.args.names.now) [] _ _ _ _) c.transfer_stx.ensures.meant)

pub stx::evaluate_burn_stx-returns-in_err-values-clause-meant : goal.stx::evaluate_burn_stx-returns-in_err-values-clause-meant
stx::evaluate_burn_stx-returns-in_err-values-clause-meant g t c fits = part_fails _ _ c.in_err-values.field-0.0 _ _ _ _ _ _ _ _ (err_from_is_err_and c.from_residual.result c.from_residual.ensures.1) (ap (watched _ _ _) (Forms.burn_stx_at _ _ _ _)) (c.in_err-values.ensures.meant fits)

pub stx::evaluate_burn_stx-returns-clause-meant : goal.stx::evaluate_burn_stx-returns-clause-meant
stx::evaluate_burn_stx-returns-clause-meant g t c fits = ends_so _ _ _ _ _ _ (ap (watched _ _ _) (Forms.burn_stx_at _ _ _ _) ∙ then_gave _ _ _ _ _ _ _ _ _ (c.in_ok-values.ensures.meant fits)) (unseen_ends _ _ _ _ _ _ _ (token_unseen natives.BurnStx (scope c.args.context.now c.args.names.now) [] _ _ _ _) c.destroy_stx.ensures.meant)

pub iterate::evaluate_iteration-returns-in-Map-clause-meant : goal.iterate::evaluate_iteration-returns-in-Map-clause-meant
iterate::evaluate_iteration-returns-in-Map-clause-meant g t c fits = ends_so _ _ _ _ _ _ (ap (watched _ _ _) (IterateLaws.iteration_at _ _ _ _ _ _ _ _ c.in-Map.is ∙ IterateLaws.map_head _ _ _ _ _ _)) (c.evaluate_map.ensures.meant fits)

pub iterate::evaluate_iteration-returns-in-Filter-clause-meant : goal.iterate::evaluate_iteration-returns-in-Filter-clause-meant
iterate::evaluate_iteration-returns-in-Filter-clause-meant g t c fits = ends_so _ _ _ _ _ _ (ap (watched _ _ _) (IterateLaws.iteration_at _ _ _ _ _ _ _ _ c.in-Filter.is ∙ IterateLaws.filter_head _ _ _ _ _ _)) (c.evaluate_filter.ensures.meant fits)

pub iterate::evaluate_iteration-returns-in-Fold-clause-meant : goal.iterate::evaluate_iteration-returns-in-Fold-clause-meant
iterate::evaluate_iteration-returns-in-Fold-clause-meant g t c fits = ends_so _ _ _ _ _ _ (ap (watched _ _ _) (IterateLaws.iteration_at _ _ _ _ _ _ _ _ c.in-Fold.is ∙ IterateLaws.fold_head _ _ _ _ _ _)) (c.evaluate_fold.ensures.meant fits)

pub walk::evaluate_node-returns-in-Iterate-clause-meant : goal.walk::evaluate_node-returns-in-Iterate-clause-meant
walk::evaluate_node-returns-in-Iterate-clause-meant g t c fits = ends_so _ _ _ _ _ _ (ap (watched _ _ _) (node_is c.args.context.now c.args.names.now.values _ _ _ _ _ _ _ _ _ _ fits c.code.view_is c.requires.goes c.in-Iterate.is c.as_slice-parts.ensures.value)) (c.evaluate_iteration.ensures.meant fits)

pub iterate::evaluate_fold-returns-in_err-sequence-clause-meant : goal.iterate::evaluate_fold-returns-in_err-sequence-clause-meant
iterate::evaluate_fold-returns-in_err-sequence-clause-meant g t c fits = part_fails _ _ c.in_err-sequence.field-0.0 _ _ _ _ _ _ _ _ (err_from_is_err_and c.from_residual.result c.from_residual.ensures.1) (ap (watched _ _ _) (IterateLaws.fold_at _ _ _ _ _ _ c.requires.fit _ c.index-codes-0.is _ c.index-codes-1.is)) (c.in_err-sequence.ensures.meant fits)

pub iterate::evaluate_fold-returns-in_err-start-clause-meant : goal.iterate::evaluate_fold-returns-in_err-start-clause-meant
iterate::evaluate_fold-returns-in_err-start-clause-meant g t c fits =
    part_fails _ _ c.in_err-start.field-0.0 _ _ _ _ _ _ _ _ (err_from_is_err_and c.from_residual-in_err-start.result c.from_residual-in_err-start.ensures.1) (ap (watched _ _ _) (IterateLaws.fold_at _ _ _ _ _ _ c.requires.fit _ c.index-codes-0.is _ c.index-codes-1.is) ∙ then_gave _ _ _ _ _ _ _ _ _ (c.in_ok-sequence.ensures.meant fits)) (c.in_err-start.ensures.meant fits)

pub iterate::evaluate_fold-returns-in_err-pay-clause-meant : goal.iterate::evaluate_fold-returns-in_err-pay-clause-meant
iterate::evaluate_fold-returns-in_err-pay-clause-meant g t c fits =
    pay_fails_at _ _ c.in_err-pay.field-0.0 _ _ _ _ _ _ _ _ _ (err_from_is_err_and c.from_residual-in_err-pay.result c.from_residual-in_err-pay.ensures.1) (omega arith) (ap (watched _ _ _) (IterateLaws.fold_at _ _ _ _ _ _ c.requires.fit _ c.index-codes-0.is _ c.index-codes-1.is) ∙ then_gave _ _ _ _ _ _ _ _ _ (c.in_ok-sequence.ensures.meant fits) ∙ then_gave _ _ _ _ _ _ _ _ _ (c.in_ok-start.ensures.meant fits)) c.in_err-pay.ensures

pub iterate::evaluate_fold-returns-in-Some-clause-meant : goal.iterate::evaluate_fold-returns-in-Some-clause-meant
iterate::evaluate_fold-returns-in-Some-clause-meant g t c fits =
    ends_so _ _ _ _ _ _ (ap (watched _ _ _) (IterateLaws.fold_at _ _ _ _ _ _ c.requires.fit _ c.index-codes-0.is _ c.index-codes-1.is) ∙ then_gave _ _ _ _ _ _ _ _ _ (c.in_ok-sequence.ensures.meant fits) ∙ then_gave _ _ _ _ _ _ _ _ _ (c.in_ok-start.ensures.meant fits) ∙ charge_spent _ _ _ _ _ _ _ _ (omega arith) c.in_ok-pay.ensures ∙ known_some _ _ _ _ _ _ _ (sym (c.callee_named.ensures.seen c.args.names.now.values fits) ∙ ap (option_map (λ f. callee_seen f)) c.in-Some.is)) (c.fold.ensures.meant _ fits)

pub iterate::evaluate_fold-returns-clause-meant : goal.iterate::evaluate_fold-returns-clause-meant
iterate::evaluate_fold-returns-clause-meant g t c fits =
    ap (watched _ _ _) (IterateLaws.fold_at _ _ _ _ _ _ c.requires.fit _ c.index-codes-0.is _ c.index-codes-1.is) ∙ then_gave _ _ _ _ _ _ _ _ _ (c.in_ok-sequence.ensures.meant fits) ∙ then_gave _ _ _ _ _ _ _ _ _ (c.in_ok-start.ensures.meant fits) ∙ charge_spent _ _ _ _ _ _ _ _ (omega arith) c.in_ok-pay.ensures ∙ known_none _ _ _ _ _ _ (sym (c.callee_named.ensures.seen c.args.names.now.values fits) ∙ ap (option_map (λ f. callee_seen f)) c.in-None.is)

pub iterate::evaluate_map-returns-in_err-values-clause-meant : goal.iterate::evaluate_map-returns-in_err-values-clause-meant
iterate::evaluate_map-returns-in_err-values-clause-meant g t c fits = part_fails _ _ c.in_err-values.field-0.0 _ _ _ _ _ _ _ _ (err_from_is_err_and c.from_residual.result c.from_residual.ensures.1) (ap (watched _ _ _) (IterateLaws.map_at _ _ _ _ _ _)) (c.in_err-values.ensures.meant fits)

pub iterate::evaluate_map-returns-in_err-pay_for_all-clause-meant : goal.iterate::evaluate_map-returns-in_err-pay_for_all-clause-meant
iterate::evaluate_map-returns-in_err-pay_for_all-clause-meant g t c fits =
    pay_fails_at _ _ c.in_err-pay_for_all.field-0.0 _ _ _ _ _ _ _ _ _ (err_from_is_err_and c.from_residual-in_err-pay_for_all.result c.from_residual-in_err-pay_for_all.ensures.1) (ap sizes c.deref.ensures.value) (ap (watched _ _ _) (IterateLaws.map_at _ _ _ _ _ _) ∙ then_gave _ _ _ _ _ _ _ _ _ (c.in_ok-values.ensures.meant fits)) c.in_err-pay_for_all.ensures

pub iterate::evaluate_map-returns-in-Some-clause-meant : goal.iterate::evaluate_map-returns-in-Some-clause-meant
iterate::evaluate_map-returns-in-Some-clause-meant g t c fits =
    ends_so _ _ _ _ _ _ (ap (watched _ _ _) (IterateLaws.map_at _ _ _ _ _ _) ∙ then_gave _ _ _ _ _ _ _ _ _ (c.in_ok-values.ensures.meant fits) ∙ charge_spent _ _ _ _ _ _ _ _ (ap sizes c.deref.ensures.value) c.in_ok-pay_for_all.ensures ∙ known_some _ _ _ _ _ _ _ (sym (c.callee_named.ensures.seen c.args.names.now.values fits) ∙ ap (option_map (λ f. callee_seen f)) c.in-Some.is) ∙ Iterating.mapped_as (costs_of c.args.context.now) _ _ (applied c.args.below) (scope c.args.context.now c.args.names.now) _ c.in_ok-values.values.items (callee_seen c.in-Some.callee) _ c.deref-in-Some.ensures.value) (c.map_rows.ensures.meant _ fits)

pub iterate::evaluate_map-returns-clause-meant : goal.iterate::evaluate_map-returns-clause-meant
iterate::evaluate_map-returns-clause-meant g t c fits =
    ap (watched _ _ _) (IterateLaws.map_at _ _ _ _ _ _) ∙ then_gave _ _ _ _ _ _ _ _ _ (c.in_ok-values.ensures.meant fits) ∙ charge_spent _ _ _ _ _ _ _ _ (ap sizes c.deref.ensures.value) c.in_ok-pay_for_all.ensures ∙ known_none _ _ _ _ _ _ (sym (c.callee_named.ensures.seen c.args.names.now.values fits) ∙ ap (option_map (λ f. callee_seen f)) c.in-None.is)

pub iterate::evaluate_filter-returns-in_err-sequence-clause-meant : goal.iterate::evaluate_filter-returns-in_err-sequence-clause-meant
iterate::evaluate_filter-returns-in_err-sequence-clause-meant g t c fits = part_fails _ _ c.in_err-sequence.field-0.0 _ _ _ _ _ _ _ _ (err_from_is_err_and c.from_residual.result c.from_residual.ensures.1) (ap (watched _ _ _) (IterateLaws.filter_at _ _ _ _ _ _ c.requires.fit _ c.index-codes-0.is)) (c.in_err-sequence.ensures.meant fits)

pub iterate::evaluate_filter-returns-in_err-pay_for-clause-meant : goal.iterate::evaluate_filter-returns-in_err-pay_for-clause-meant
iterate::evaluate_filter-returns-in_err-pay_for-clause-meant g t c fits =
    pay_fails _ _ c.in_err-pay_for.field-0.0 _ _ _ _ _ _ _ _ (err_from_is_err_and c.from_residual-in_err-pay_for.result c.from_residual-in_err-pay_for.ensures.1) (ap (watched _ _ _) (IterateLaws.filter_at _ _ _ _ _ _ c.requires.fit _ c.index-codes-0.is) ∙ then_gave _ _ _ _ _ _ _ _ _ (c.in_ok-sequence.ensures.meant fits)) c.in_err-pay_for.ensures

pub iterate::evaluate_filter-returns-in-Some-clause-meant : goal.iterate::evaluate_filter-returns-in-Some-clause-meant
iterate::evaluate_filter-returns-in-Some-clause-meant g t c fits =
    ends_so _ _ _ _ _ _ (ap (watched _ _ _) (IterateLaws.filter_at _ _ _ _ _ _ c.requires.fit _ c.index-codes-0.is) ∙ then_gave _ _ _ _ _ _ _ _ _ (c.in_ok-sequence.ensures.meant fits) ∙ charge_within _ _ _ _ _ _ _ c.in_ok-pay_for.ensures ∙ known_some _ _ _ _ _ _ _ (sym (c.callee_named.ensures.seen c.args.names.now.values fits) ∙ ap (option_map (λ f. callee_seen f)) c.in-Some.is)) (c.filter.ensures.meant _ fits)

pub iterate::evaluate_filter-returns-in-None-clause-meant : goal.iterate::evaluate_filter-returns-in-None-clause-meant
iterate::evaluate_filter-returns-in-None-clause-meant g t c fits =
    ap (watched _ _ _) (IterateLaws.filter_at _ _ _ _ _ _ c.requires.fit _ c.index-codes-0.is) ∙ then_gave _ _ _ _ _ _ _ _ _ (c.in_ok-sequence.ensures.meant fits) ∙ charge_within _ _ _ _ _ _ _ c.in_ok-pay_for.ensures ∙ known_none _ _ _ _ _ _ (sym (c.callee_named.ensures.seen c.args.names.now.values fits) ∙ ap (option_map (λ f. callee_seen f)) c.in-None.is)

pub iterate::apply-returns-in-Function-clause-meant : goal.iterate::apply-returns-in-Function-clause-meant
iterate::apply-returns-in-Function-clause-meant g t c bound fits = ends_so _ _ _ _ _ _ (ap (λ f. watched (costs_of c.args.context.now) c.args.meter.now (g.W.Watch.seen c.args.watch.now) (applied c.args.depth (scope_of c.args.context.now bound) (callee_seen f) c.args.values.items c.args.world.now.stack.top)) c.in-Function.is) (c.enter.ensures.meant bound fits)

pub iterate::apply-returns-in-Native-clause-meant : goal.iterate::apply-returns-in-Native-clause-meant
iterate::apply-returns-in-Native-clause-meant g t c bound fits = ends_so _ _ _ _ _ _ (ap (λ f. watched (costs_of c.args.context.now) c.args.meter.now (g.W.Watch.seen c.args.watch.now) (applied c.args.depth (scope_of c.args.context.now bound) (callee_seen f) c.args.values.items c.args.world.now.stack.top)) c.in-Native.is) (c.apply_watched.ensures.meant bound c.args.world.now.stack.top)

pub iterate::fold-returns-in_default-clause-meant : goal.iterate::fold-returns-in_default-clause-meant
iterate::fold-returns-in_default-clause-meant g t c bound fits = known_none _ _ _ _ _ _ (Rows.entries_unknown c.args.sequence.now _ (Rows.none_if_not _ c.in_default.not-Some) c.try_len.ensures)

pub iterate::fold-returns-in_err-so_far-in-Some-2-clause-meant : goal.iterate::fold-returns-in_err-so_far-in-Some-2-clause-meant
iterate::fold-returns-in_err-so_far-in-Some-2-clause-meant g t c bound fits =
    hands_on _ _ c.in_err-so_far-in-Some-2.field-0.0 _ _ _ (err_from_is_err_and c.from_residual-in_err-so_far-in-Some-2.result c.from_residual-in_err-so_far-in-Some-2.ensures.1)
    (stops_eq _ _ _ _ _ _ (known_some _ _ _ _ _ (λ xs. folded (applied c.args.below) (scope_of c.args.context.now bound) (callee_seen c.args.callee.now) xs c.args.start) _ (Rows.entries_known _ c.args.sequence.now _ c.in-Some.is c.try_len.ensures) ∙ c.loop-place.invariant.so_far bound fits ∙ Iterating.fold_next (costs_of c.args.context.now) c.loop-place.meter (g.W.Watch.seen c.loop-place.watch) (applied c.args.below) (scope_of c.args.context.now bound) (callee_seen c.args.callee.now) _ c.in-Some-2.entry _ c.in_ok-values-in-Some-2.values.items c.loop-place.so_far c.loop-place.world.stack.top (Rows.entries_next _ c.args.sequence.now _ (sym c.in-Some-2.is ∙ c.in_ok-entry.ensures)) c.in_ok-values-in-Some-2.ensures) (stops_then _ _ _ _ _ _ _ _ _ (c.in_err-so_far-in-Some-2.ensures.meant bound fits)))

pub iterate::fold-loop-place-preserved : goal.iterate::fold-loop-place-preserved
iterate::fold-loop-place-preserved g t c = record {
  so_far = λ bound fits. c.loop-place.invariant.so_far bound fits ∙ Iterating.fold_next (costs_of c.args.context.now) c.loop-place.meter (g.W.Watch.seen c.loop-place.watch) (applied c.args.below) (scope_of c.args.context.now bound) (callee_seen c.args.callee.now) _ c.in-Some-2.entry _ c.in_ok-values-in-Some-2.values.items c.loop-place.so_far c.loop-place.world.stack.top (Rows.entries_next _ c.args.sequence.now _ (sym c.in-Some-2.is ∙ c.in_ok-entry.ensures)) c.in_ok-values-in-Some-2.ensures ∙ then_gave _ _ _ _ _ _ _ _ _ (c.in_ok-so_far-in-Some-2.ensures.meant bound fits);
  below = c.in_ok-so_far-in-Some-2.ensures.below ∙ c.loop-place.invariant.below;
  grew = still_less _ _ _ c.loop-place.invariant.grew c.in_ok-so_far-in-Some-2.ensures.grew;
}

pub iterate::fold-returns-in-None-clause-meant : goal.iterate::fold-returns-in-None-clause-meant
iterate::fold-returns-in-None-clause-meant g t c bound fits =
    known_some _ _ _ _ _ (λ xs. folded (applied c.args.below) (scope_of c.args.context.now bound) (callee_seen c.args.callee.now) xs c.args.start) _ (Rows.entries_known _ c.args.sequence.now _ c.in-Some.is c.try_len.ensures) ∙ c.loop-place.invariant.so_far bound fits ∙ Iterating.fold_end _ _ _ _ _ _ _ _ _ (Rows.entries_past _ c.args.sequence.now (sym c.in-None.is ∙ c.in_ok-entry.ensures))

pub iterate::fold-returns-clause-meant : goal.iterate::fold-returns-clause-meant
iterate::fold-returns-clause-meant g t c bound fits =
    let past : c.in-Some.count ≤ c.loop-place.place = c.loop-place-test.false in
    known_some _ _ _ _ _ (λ xs. folded (applied c.args.below) (scope_of c.args.context.now bound) (callee_seen c.args.callee.now) xs c.args.start) _ (Rows.entries_known _ c.args.sequence.now _ c.in-Some.is c.try_len.ensures) ∙ c.loop-place.invariant.so_far bound fits ∙ Iterating.fold_end _ _ _ _ _ _ _ _ _ (Rows.entries_end _ _ c.args.sequence.now _ c.in-Some.is c.try_len.ensures past)

pub iterate::apply_each-returns-in_default-clause-meant : goal.iterate::apply_each-returns-in_default-clause-meant
iterate::apply_each-returns-in_default-clause-meant g t c bound fits = known_none _ _ _ _ _ _ (Rows.rows_unknown _ (sym c.width.ensures ∙ Rows.none_if_not _ c.in_default.not-Some))

pub iterate::apply_each-returns-in_err-value-in-Some-2-clause-meant : goal.iterate::apply_each-returns-in_err-value-in-Some-2-clause-meant
iterate::apply_each-returns-in_err-value-in-Some-2-clause-meant g t c bound fits =
    hands_on_all _ _ c.in_err-value-in-Some-2.field-0.0 _ _ _ (err_from_is_err_and c.from_residual-in_err-value-in-Some-2.result c.from_residual-in_err-value-in-Some-2.ensures.1)
    (stops_eq _ _ _ _ _ _ (known_some _ _ _ _ _ (each (applied c.args.below) (scope_of c.args.context.now bound) (callee_seen c.args.callee.now)) _ (Rows.rows_known _ c.args.sequences.now (sym c.width.ensures ∙ c.in-Some.is)) ∙ c.loop-place.invariant.so_far bound fits) (Iterating.each_stops _ _ _ _ _ _ _ _ _ _ _ _ _ _ _ (Rows.rows_next _ c.args.sequences.now _ (Rows.some_sequence _ c.args.sequences.now (sym c.width.ensures ∙ c.in-Some.is)) (sym c.in_ok-row.ensures.row ∙ ap (option_map (λ r. r.items)) c.in-Some-2.is)) (c.in_err-value-in-Some-2.ensures.meant bound fits)))

pub iterate::apply_each-loop-place-init : goal.iterate::apply_each-loop-place-init
iterate::apply_each-loop-place-init g t c = record {
  so_far = λ bound fits. onto-nil _ ∙ ap (λ vs. onto vs (watched (costs_of c.args.context.now) c.args.meter.now (g.W.Watch.seen c.args.watch.now) (each (applied c.args.below) (scope_of c.args.context.now bound) (callee_seen c.args.callee.now) (rows_from 0 c.args.sequences.now) c.args.world.now.stack.top))) (sym c.new-results.ensures.items);
  below = refl;
  grew = no_less _;
}

pub iterate::apply_each-loop-place-preserved : goal.iterate::apply_each-loop-place-preserved
iterate::apply_each-loop-place-preserved g t c = record {
  so_far = λ bound fits. c.loop-place.invariant.so_far bound fits ∙ Iterating.each_turn _ _ _ _ _ _ _ _ _ _ _ _ _ _ _ _ (Rows.rows_next _ c.args.sequences.now _ (Rows.some_sequence _ c.args.sequences.now (sym c.width.ensures ∙ c.in-Some.is)) (sym c.in_ok-row.ensures.row ∙ ap (option_map (λ r. r.items)) c.in-Some-2.is)) c.in_ok-push-in-Some-2.ensures.items (c.in_ok-value-in-Some-2.ensures.meant bound fits);
  below = c.in_ok-value-in-Some-2.ensures.below ∙ c.loop-place.invariant.below;
  grew = still_less _ _ _ c.loop-place.invariant.grew c.in_ok-value-in-Some-2.ensures.grew;
}

pub iterate::apply_each-returns-in-None-clause-meant : goal.iterate::apply_each-returns-in-None-clause-meant
iterate::apply_each-returns-in-None-clause-meant g t c bound fits =
    known_some _ _ _ _ _ (each (applied c.args.below) (scope_of c.args.context.now bound) (callee_seen c.args.callee.now)) _ (Rows.rows_known _ c.args.sequences.now (sym c.width.ensures ∙ c.in-Some.is)) ∙ c.loop-place.invariant.so_far bound fits ∙ Iterating.each_end _ _ _ _ _ _ _ _ _ (Rows.rows_past _ c.args.sequences.now (sym c.in_ok-row.ensures.row ∙ ap (option_map (λ r. r.items)) c.in-None.is))

pub iterate::apply_each-returns-clause-meant : goal.iterate::apply_each-returns-clause-meant
iterate::apply_each-returns-clause-meant g t c bound fits =
    let past : c.in-Some.count ≤ c.loop-place.place = c.loop-place-test.false in
    known_some _ _ _ _ _ (each (applied c.args.below) (scope_of c.args.context.now bound) (callee_seen c.args.callee.now)) _ (Rows.rows_known _ c.args.sequences.now (sym c.width.ensures ∙ c.in-Some.is)) ∙ c.loop-place.invariant.so_far bound fits ∙ Iterating.each_end _ _ _ _ _ _ _ _ _ (Rows.rows_end _ _ c.args.sequences.now (sym c.width.ensures ∙ c.in-Some.is) past)

pub iterate::apply_each-apply-requires : goal.iterate::apply_each-apply-requires
iterate::apply_each-apply-requires g t c = λ κs alive. (omega arith, (alive, (omega (arith, Rows.counted_row _ _ _ c.in-Some-2.is c.in_ok-row.ensures.count, c.requires.few), c.requires.goes)))

pub iterate::map_rows-returns-in_err-results-clause-meant : goal.iterate::map_rows-returns-in_err-results-clause-meant
iterate::map_rows-returns-in_err-results-clause-meant g t c bound fits =
    part_fails _ _ c.in_err-results.field-0.0 _ _ c.apply_each.new.meter _ (g.W.Watch.seen c.apply_each.new.watch) c.apply_each.new.world.stack.top _ _ (err_from_is_err_and c.from_residual.result c.from_residual.ensures.1) (Iterating.map_results (costs_of c.args.context.now) c.args.meter.now (g.W.Watch.seen c.args.watch.now) (applied c.args.below) (scope_of c.args.context.now bound) (callee_seen c.args.callee.now) c.args.sequences.now c.args.world.now.stack.top) (c.in_err-results.ensures.meant bound fits)

pub iterate::map_rows-returns-clause-meant : goal.iterate::map_rows-returns-clause-meant
iterate::map_rows-returns-clause-meant g t c bound fits =
    ends_so _ _ _ c.apply_each.new.meter (g.W.Watch.seen c.apply_each.new.watch) c.apply_each.new.world.stack.top (Iterating.map_results (costs_of c.args.context.now) c.args.meter.now (g.W.Watch.seen c.args.watch.now) (applied c.args.below) (scope_of c.args.context.now bound) (callee_seen c.args.callee.now) c.args.sequences.now c.args.world.now.stack.top ∙ then_gave _ _ _ _ _ _ (λ ws. stop (outcome_of (Gives (ListV (items_of ws))))) _ _ (c.in_ok-results.ensures.meant bound fits)) (unseen_ends (costs_of c.args.context.now) c.apply_each.new.meter _ _ _ _ c.apply_each.new.world.stack.top (stopped _ _ _ _) (native_ends (costs_of c.args.context.now) c.apply_each.new.meter _ _ c.apply_each.new.world.stack.top (c.computed.ensures (Gives (ListV (items_of c.in_ok-results.results.items))) c.list_of.ensures)))

pub iterate::filter-returns-in_err-results-clause-meant : goal.iterate::filter-returns-in_err-results-clause-meant
iterate::filter-returns-in_err-results-clause-meant g t c bound fits =
    hands_on _ _ c.in_err-results.field-0.0 _ _ _ (err_from_is_err_and c.from_residual-in_err-results.result c.from_residual-in_err-results.ensures.1)
    (Iterating.filter_stops (costs_of c.args.context.now) (applied c.args.below) (scope_of c.args.context.now bound) (callee_seen c.args.callee.now) c.args.sequence _ c.args.world.now.stack.top c.args.meter.now (g.W.Watch.seen c.args.watch.now) _ _ _ _ (c.deref.ensures.value ∙ c.in_ok-sequences.ensures) (c.in_err-results.ensures.meant bound fits))

pub iterate::filter-returns-clause-meant : goal.iterate::filter-returns-clause-meant
iterate::filter-returns-clause-meant g t c bound fits =
    Iterating.filter_ends (costs_of c.args.context.now) (applied c.args.below) (scope_of c.args.context.now bound) (callee_seen c.args.callee.now) c.args.sequence _ c.args.world.now.stack.top c.args.meter.now (g.W.Watch.seen c.args.watch.now) _ _ _ _ _ _ (c.deref.ensures.value ∙ c.in_ok-sequences.ensures) (c.in_ok-results.ensures.meant bound fits) c.deref-2.ensures.value (c.sieve.ensures _ _ _ c.args.sequence c.in_ok-sequences.ensures)

pub iterate::filter-apply_each-requires : goal.iterate::filter-apply_each-requires
iterate::filter-apply_each-requires g t c =
    let one : length c.deref.result.now ≡ 1 = ap length (c.deref.ensures.value ∙ c.in_ok-sequences.ensures) in
    λ κs alive. (omega arith, (alive, (omega (arith, one), c.requires.goes)))

pub walk::evaluate_node-evaluate_iteration-requires : goal.walk::evaluate_node-evaluate_iteration-requires
walk::evaluate_node-evaluate_iteration-requires g t c =
    let count : length c.as_slice-parts.result.now ≡ length c.code.inside.parts.items = ap length c.as_slice-parts.ensures.value in
    λ κs alive. (
      omega arith,
      (
        alive,
        (
          IterateLaws.own_applied _ _ _ _ c.code.invariant.named c.in-Iterate.is,
          (
            omega (arith, count, c.code.invariant.few),
            (
              Nodes.parts_of_node _ _ _ _ c.code.invariant.fit c.in-Iterate.is count,
              (Going.applied_in c.args.context.now _ _ _ _ _ _ _ _ c.code.view_is c.requires.goes c.in-Iterate.is, Going.parts_in c.args.context.now _ _ _ _ _ _ c.code.view_is c.requires.goes c.as_slice-parts.ensures.value),
            ),
          ),
        ),
      ),
    )

pub iterate::evaluate_iteration-evaluate_filter-requires : goal.iterate::evaluate_iteration-evaluate_filter-requires
iterate::evaluate_iteration-evaluate_filter-requires g t c = λ κs alive. (omega arith, (alive, (c.requires.own, (IterateLaws.filter_parts _ _ c.in-Filter.is c.requires.fit, (c.requires.applies, c.requires.goes)))))

pub iterate::evaluate_iteration-evaluate_fold-requires : goal.iterate::evaluate_iteration-evaluate_fold-requires
iterate::evaluate_iteration-evaluate_fold-requires g t c = λ κs alive. (omega arith, (alive, (c.requires.own, (IterateLaws.fold_parts _ _ c.in-Fold.is c.requires.fit, (c.requires.applies, c.requires.goes)))))

pub walk::evaluate-returns-in_err-saw-clause-meant : goal.walk::evaluate-returns-in_err-saw-clause-meant
walk::evaluate-returns-in_err-saw-clause-meant g t c fits =
    memory_ends _ _ _ _ _ _ (err_from_is_err_and c.from_residual-in_err-saw.result c.from_residual-in_err-saw.ensures.1)
    (means_down _ _ _ _ _ _ _ (positive _ c.if-depth-eq0.false) ∙ watched-ending _ _ _ _ _) (node_unseen _ _ _ _ _ _ _ (c.in_ok-value.ensures.meant fits) c.in_err-saw.ensures)

pub walk::evaluate_parts-returns-in_err-values-clause-meant : goal.walk::evaluate_parts-returns-in_err-values-clause-meant
walk::evaluate_parts-returns-in_err-values-clause-meant g t c fits = onto_memory _ _ _ _ _ [] _ _ (err_from_is_err_and c.from_residual.result c.from_residual.ensures.1) (onto-nil _)

pub scopes::evaluate_bindings-returns-in_err-own-clause-meant : goal.scopes::evaluate_bindings-returns-in_err-own-clause-meant
scopes::evaluate_bindings-returns-in_err-own-clause-meant g t c body fits =
    Lets.binds_memory _ _ _ (λ own. scope_of c.args.context.now (c.args.names.now.values ++ own)) _ _ _ _ _ _ (err_from_is_err_and c.from_residual.result c.from_residual.ensures.1) refl (starts _ _ _ _)

pub scopes::evaluate_bindings-returns-in_err-push-clause-meant : goal.scopes::evaluate_bindings-returns-in_err-push-clause-meant
scopes::evaluate_bindings-returns-in_err-push-clause-meant g t c body fits =
    let here : c.loop-binding.binding-index < length c.args.bindings.now = c.loop-binding-test.true in
    Lets.binds_memory _ _ _ (λ own. scope_of c.args.context.now (c.args.names.now.values ++ own)) _ _ _ _ _ _ (err_from_is_err_and c.from_residual-in_err-push.result c.from_residual-in_err-push.ensures.1) (c.loop-binding.invariant.so_far body fits ∙ Lets.let_next (costs_of c.args.context.now) c.loop-binding.meter (g.W.Watch.seen c.loop-binding.watch) (means c.args.below) body (scope c.args.context.now c.args.names.now) c.args.names.now.values c.args.bindings.now c.args.codes.now c.loop-binding.binding-index c.loop-binding.place _ _ c.loop-binding.world.stack.top c.loop-binding.own.items _ _ refl c.deref.ensures.value c.loop-binding.invariant.at here c.requires.fit c.binding-item.is c.index-codes-place.is ∙ then_gave _ _ _ _ _ _ _ _ _ (c.in_ok-value.ensures.meant fits) ∙ charge_within _ _ _ _ _ _ _ c.in_ok-pay_for.ensures) (starts _ _ _ _)

pub calls::evaluate_body-returns-in_err-push_layer-clause-meant : goal.calls::evaluate_body-returns-in_err-push_layer-clause-meant
calls::evaluate_body-returns-in_err-push_layer-clause-meant g t c outer fits = memory_fails _ _ _ _ _ _ _ _ (err_from_is_err_and c.from_residual.result c.from_residual.ensures.1) refl

pub iterate::fold-returns-in_err-entry-clause-meant : goal.iterate::fold-returns-in_err-entry-clause-meant
iterate::fold-returns-in_err-entry-clause-meant g t c bound fits = memory_fails _ _ _ _ _ _ _ _ (err_from_is_err_and c.from_residual.result c.from_residual.ensures.1)
    (known_some _ _ _ _ _ (λ xs. folded (applied c.args.below) (scope_of c.args.context.now bound) (callee_seen c.args.callee.now) xs c.args.start) _ (Rows.entries_known _ c.args.sequence.now _ c.in-Some.is c.try_len.ensures) ∙ c.loop-place.invariant.so_far bound fits)

pub iterate::fold-returns-in_err-values-in-Some-2-clause-meant : goal.iterate::fold-returns-in_err-values-in-Some-2-clause-meant
iterate::fold-returns-in_err-values-in-Some-2-clause-meant g t c bound fits = memory_fails _ _ _ _ _ _ _ _ (err_from_is_err_and c.from_residual-in_err-values-in-Some-2.result c.from_residual-in_err-values-in-Some-2.ensures.1)
    (known_some _ _ _ _ _ (λ xs. folded (applied c.args.below) (scope_of c.args.context.now bound) (callee_seen c.args.callee.now) xs c.args.start) _ (Rows.entries_known _ c.args.sequence.now _ c.in-Some.is c.try_len.ensures) ∙ c.loop-place.invariant.so_far bound fits)

pub iterate::apply_each-returns-in_err-row-clause-meant : goal.iterate::apply_each-returns-in_err-row-clause-meant
iterate::apply_each-returns-in_err-row-clause-meant g t c bound fits = onto_memory _ _ _ _ _ _ _ _ (err_from_is_err_and c.from_residual.result c.from_residual.ensures.1)
    (known_some _ _ _ _ _ (each (applied c.args.below) (scope_of c.args.context.now bound) (callee_seen c.args.callee.now)) _ (Rows.rows_known _ c.args.sequences.now (sym c.width.ensures ∙ c.in-Some.is)) ∙ c.loop-place.invariant.so_far bound fits)

pub iterate::apply_each-returns-in_err-push-in-Some-2-clause-meant : goal.iterate::apply_each-returns-in_err-push-in-Some-2-clause-meant
iterate::apply_each-returns-in_err-push-in-Some-2-clause-meant g t c bound fits = onto_memory _ _ _ _ _ (c.loop-place.results.items ++ c.in_ok-value-in-Some-2.value ∷ []) _ _ (err_from_is_err_and c.from_residual-in_err-push-in-Some-2.result c.from_residual-in_err-push-in-Some-2.ensures.1)
    (known_some _ _ _ _ _ (each (applied c.args.below) (scope_of c.args.context.now bound) (callee_seen c.args.callee.now)) _ (Rows.rows_known _ c.args.sequences.now (sym c.width.ensures ∙ c.in-Some.is)) ∙ c.loop-place.invariant.so_far bound fits ∙ Iterating.each_turn _ _ _ _ _ _ _ _ _ _ _ _ _ _ _ _ (Rows.rows_next _ c.args.sequences.now _ (Rows.some_sequence _ c.args.sequences.now (sym c.width.ensures ∙ c.in-Some.is)) (sym c.in_ok-row.ensures.row ∙ ap (option_map (λ r. r.items)) c.in-Some-2.is)) refl (c.in_ok-value-in-Some-2.ensures.meant bound fits))

pub iterate::filter-returns-in_err-sequences-clause-meant : goal.iterate::filter-returns-in_err-sequences-clause-meant
iterate::filter-returns-in_err-sequences-clause-meant g t c bound fits = memory_fails _ _ _ _ _ _ _ _ (err_from_is_err_and c.from_residual.result c.from_residual.ensures.1) refl

pub tuples::evaluate_tuple_of-returns-in_err-keys-clause-meant : goal.tuples::evaluate_tuple_of-returns-in_err-keys-clause-meant
tuples::evaluate_tuple_of-returns-in_err-keys-clause-meant g t c fits = memory_fails _ _ _ _ _ _ _ _ (err_from_is_err_and c.from_residual.result c.from_residual.ensures.1) refl

pub walk::evaluate-returns-clause-grew : goal.walk::evaluate-returns-clause-grew
walk::evaluate-returns-clause-grew g t c = omega (arith, c.in_ok-value.ensures.grew, grew_more _ _ _ c.in_ok-saw.ensures)

-- ---- what the calls of the cycle require

pub walk::evaluate-evaluate_node-requires : goal.walk::evaluate-evaluate_node-requires
walk::evaluate-evaluate_node-requires g t c = λ κs alive. (omega arith, (alive, c.requires.goes))

pub walk::evaluate_node-evaluate_native-requires : goal.walk::evaluate_node-evaluate_native-requires
walk::evaluate_node-evaluate_native-requires g t c = λ κs alive. (omega arith, (alive, (omega (arith, c.code.invariant.few, (ap (λ (l : List Typed). length l) c.as_slice-parts.ensures.value)), Going.parts_in c.args.context.now _ _ _ _ _ _ c.code.view_is c.requires.goes c.as_slice-parts.ensures.value)))

pub walk::evaluate_node-evaluate_on_parts-requires : goal.walk::evaluate_node-evaluate_on_parts-requires
walk::evaluate_node-evaluate_on_parts-requires g t c = λ κs alive. (omega arith, (alive, (omega (arith, c.code.invariant.few, (ap (λ (l : List Typed). length l) c.as_slice-parts.ensures.value)), (Nodes.parts_of_node _ _ _ _ c.code.invariant.fit c.in-OnParts.is (ap (λ (l : List Typed). length l) c.as_slice-parts.ensures.value), Going.parts_in c.args.context.now _ _ _ _ _ _ c.code.view_is c.requires.goes c.as_slice-parts.ensures.value))))

pub walk::evaluate_node-evaluate_on_name-requires : goal.walk::evaluate_node-evaluate_on_name-requires
walk::evaluate_node-evaluate_on_name-requires g t c = λ κs alive. (omega arith, (alive, (omega (arith, c.code.invariant.few, (ap (λ (l : List Typed). length l) c.as_slice-parts.ensures.value)), (Nodes.parts_of_node _ _ _ _ c.code.invariant.fit c.in-OnName.is (ap (λ (l : List Typed). length l) c.as_slice-parts.ensures.value), Going.parts_in c.args.context.now _ _ _ _ _ _ c.code.view_is c.requires.goes c.as_slice-parts.ensures.value))))

pub walk::evaluate_node-evaluate_as_max_len-requires : goal.walk::evaluate_node-evaluate_as_max_len-requires
walk::evaluate_node-evaluate_as_max_len-requires g t c = λ κs alive. (omega arith, (alive, (Heads.exactly _ 1 (Nodes.parts_of_node _ _ _ _ c.code.invariant.fit c.in-AsMaxLen.is (ap (λ (l : List Typed). length l) c.as_slice-parts.ensures.value)), Going.parts_in c.args.context.now _ _ _ _ _ _ c.code.view_is c.requires.goes c.as_slice-parts.ensures.value)))

pub walk::evaluate_node-evaluate_let-requires : goal.walk::evaluate_node-evaluate_let-requires
walk::evaluate_node-evaluate_let-requires g t c = λ κs alive. (omega arith, (alive, (omega (arith, c.code.invariant.few, (ap (λ (l : List Typed). length l) c.as_slice-parts.ensures.value)), (Nodes.let_counts _ _ _ _ _ _ _ c.code.invariant.fit c.in-Let.is c.deref-in-Let.ensures.value c.as_slice-parts.ensures.value, Going.parts_in c.args.context.now _ _ _ _ _ _ c.code.view_is c.requires.goes c.as_slice-parts.ensures.value))))

pub walk::evaluate_node-evaluate_match_optional-requires : goal.walk::evaluate_node-evaluate_match_optional-requires
walk::evaluate_node-evaluate_match_optional-requires g t c = λ κs alive. (omega arith, (alive, (Heads.exactly _ 3 (Nodes.parts_of_node _ _ _ _ c.code.invariant.fit c.in-MatchOptional.is (ap (λ (l : List Typed). length l) c.as_slice-parts.ensures.value)), Going.parts_in c.args.context.now _ _ _ _ _ _ c.code.view_is c.requires.goes c.as_slice-parts.ensures.value)))

pub walk::evaluate_node-evaluate_match_response-requires : goal.walk::evaluate_node-evaluate_match_response-requires
walk::evaluate_node-evaluate_match_response-requires g t c = λ κs alive. (omega arith, (alive, (Heads.exactly _ 3 (Nodes.parts_of_node _ _ _ _ c.code.invariant.fit c.in-MatchResponse.is (ap (λ (l : List Typed). length l) c.as_slice-parts.ensures.value)), Going.parts_in c.args.context.now _ _ _ _ _ _ c.code.view_is c.requires.goes c.as_slice-parts.ensures.value)))

pub walk::evaluate_node-evaluate_call-requires : goal.walk::evaluate_node-evaluate_call-requires
walk::evaluate_node-evaluate_call-requires g t c = λ κs alive. (omega arith, (alive, (omega (arith, c.code.invariant.few, (ap (λ (l : List Typed). length l) c.as_slice-parts.ensures.value)), Going.parts_in c.args.context.now _ _ _ _ _ _ c.code.view_is c.requires.goes c.as_slice-parts.ensures.value)))

pub walk::evaluate_node-evaluate_contract_call-requires : goal.walk::evaluate_node-evaluate_contract_call-requires
walk::evaluate_node-evaluate_contract_call-requires g t c = λ κs alive. (omega arith, (alive, (omega (arith, c.code.invariant.few, (ap (λ (l : List Typed). length l) c.as_slice-parts.ensures.value)), Going.parts_in c.args.context.now _ _ _ _ _ _ c.code.view_is c.requires.goes c.as_slice-parts.ensures.value)))

pub walk::evaluate_parts-evaluate-requires : goal.walk::evaluate_parts-evaluate-requires
walk::evaluate_parts-evaluate-requires g t c = λ κs alive. (omega arith, (alive, Going.part_in c.args.context.now c.args.codes.now c.loop-code.code-index _ c.requires.goes c.loop-code-test.true c.code-item.is))

pub walk::evaluate_native-evaluate_parts-requires : goal.walk::evaluate_native-evaluate_parts-requires
walk::evaluate_native-evaluate_parts-requires g t c = λ κs alive. (omega arith, (alive, c.requires.goes))

pub walk::evaluate_truth-evaluate-requires : goal.walk::evaluate_truth-evaluate-requires
walk::evaluate_truth-evaluate-requires g t c = λ κs alive. (omega arith, (alive, c.requires.goes))

pub walk::evaluate_thrown-evaluate-requires : goal.walk::evaluate_thrown-evaluate-requires
walk::evaluate_thrown-evaluate-requires g t c = λ κs alive. (omega arith, (alive, c.requires.goes))

pub on_parts::evaluate_on_parts-evaluate_if-requires : goal.on_parts::evaluate_on_parts-evaluate_if-requires
on_parts::evaluate_on_parts-evaluate_if-requires g t c = λ κs alive. (omega arith, (alive, (Heads.exactly _ 3 (Heads.counts _ _ _ c.in-If.is c.requires.fit), c.requires.goes)))

pub on_parts::evaluate_on_parts-evaluate_begin-requires : goal.on_parts::evaluate_on_parts-evaluate_begin-requires
on_parts::evaluate_on_parts-evaluate_begin-requires g t c = λ κs alive. (omega arith, (alive, (c.requires.few, c.requires.goes)))

pub on_parts::evaluate_on_parts-evaluate_and-requires : goal.on_parts::evaluate_on_parts-evaluate_and-requires
on_parts::evaluate_on_parts-evaluate_and-requires g t c = λ κs alive. (omega arith, (alive, (c.requires.few, (Heads.some_parts _ (Heads.counts _ _ _ c.in-And.is c.requires.fit), c.requires.goes))))

pub on_parts::evaluate_on_parts-evaluate_or-requires : goal.on_parts::evaluate_on_parts-evaluate_or-requires
on_parts::evaluate_on_parts-evaluate_or-requires g t c = λ κs alive. (omega arith, (alive, (c.requires.few, (Heads.some_parts _ (Heads.counts _ _ _ c.in-Or.is c.requires.fit), c.requires.goes))))

pub on_parts::evaluate_on_parts-evaluate_asserts-requires : goal.on_parts::evaluate_on_parts-evaluate_asserts-requires
on_parts::evaluate_on_parts-evaluate_asserts-requires g t c = λ κs alive. (omega arith, (alive, (Heads.exactly _ 2 (Heads.counts _ _ _ c.in-Asserts.is c.requires.fit), c.requires.goes)))

pub on_parts::evaluate_on_parts-evaluate_unwrap-requires : goal.on_parts::evaluate_on_parts-evaluate_unwrap-requires
on_parts::evaluate_on_parts-evaluate_unwrap-requires g t c = λ κs alive. (omega arith, (alive, (Heads.exactly _ 2 (Heads.counts _ _ _ c.in-Unwrap.is c.requires.fit), c.requires.goes)))

pub on_parts::evaluate_on_parts-evaluate_unwrap_err-requires : goal.on_parts::evaluate_on_parts-evaluate_unwrap_err-requires
on_parts::evaluate_on_parts-evaluate_unwrap_err-requires g t c = λ κs alive. (omega arith, (alive, (Heads.exactly _ 2 (Heads.counts _ _ _ c.in-UnwrapErr.is c.requires.fit), c.requires.goes)))

pub on_parts::evaluate_on_parts-evaluate_try-requires : goal.on_parts::evaluate_on_parts-evaluate_try-requires
on_parts::evaluate_on_parts-evaluate_try-requires g t c = λ κs alive. (omega arith, (alive, (Heads.exactly _ 1 (Heads.counts _ _ _ c.in-Try.is c.requires.fit), c.requires.goes)))

pub on_parts::evaluate_on_parts-evaluate_as_contract-requires : goal.on_parts::evaluate_on_parts-evaluate_as_contract-requires
on_parts::evaluate_on_parts-evaluate_as_contract-requires g t c = λ κs alive. (omega arith, (alive, (Heads.exactly _ 1 (Heads.counts _ _ _ c.in-AsContract.is c.requires.fit), c.requires.goes)))

pub on_parts::evaluate_on_parts-evaluate_print-requires : goal.on_parts::evaluate_on_parts-evaluate_print-requires
on_parts::evaluate_on_parts-evaluate_print-requires g t c = λ κs alive. (omega arith, (alive, (Heads.exactly _ 1 (Heads.counts _ _ _ c.in-Print.is c.requires.fit), c.requires.goes)))

pub on_parts::evaluate_on_parts-evaluate_stx-requires : goal.on_parts::evaluate_on_parts-evaluate_stx-requires
on_parts::evaluate_on_parts-evaluate_stx-requires g t c = λ κs alive. (omega arith, (alive, (Heads.exactly _ 1 (Heads.counts _ _ _ c.in-StxBalance.is c.requires.fit), c.requires.goes)))

pub on_parts::evaluate_on_parts-evaluate_send_stx-requires : goal.on_parts::evaluate_on_parts-evaluate_send_stx-requires
on_parts::evaluate_on_parts-evaluate_send_stx-requires g t c = λ κs alive. (omega arith, (alive, (c.requires.few, c.requires.goes)))

pub on_parts::evaluate_on_parts-evaluate_burn_stx-requires : goal.on_parts::evaluate_on_parts-evaluate_burn_stx-requires
on_parts::evaluate_on_parts-evaluate_burn_stx-requires g t c = λ κs alive. (omega arith, (alive, (c.requires.few, c.requires.goes)))

pub on_names::evaluate_on_name-evaluate-requires : goal.on_names::evaluate_on_name-evaluate-requires
on_names::evaluate_on_name-evaluate-requires g t c = λ κs alive. (omega arith, (alive, Going.part_in c.args.context.now c.args.codes.now 0 _ c.requires.goes (omega (arith, Heads.is_one _ _ (sym c.in-One.is ∙ c.taking_of.ensures) c.requires.fit)) c.index-codes-0.is))

pub on_names::evaluate_on_name-evaluate_parts-requires : goal.on_names::evaluate_on_name-evaluate_parts-requires
on_names::evaluate_on_name-evaluate_parts-requires g t c = λ κs alive. (omega arith, (alive, c.requires.goes))

pub control::evaluate_if-evaluate_truth-requires : goal.control::evaluate_if-evaluate_truth-requires
control::evaluate_if-evaluate_truth-requires g t c = λ κs alive. (omega arith, (alive, Going.part_in c.args.context.now c.args.codes.now 0 _ c.requires.goes (omega (arith, c.requires.fit)) c.index-codes-0.is))

pub control::evaluate_if-evaluate-requires : goal.control::evaluate_if-evaluate-requires
control::evaluate_if-evaluate-requires g t c = λ κs alive. (omega arith, (alive, Going.part_in c.args.context.now c.args.codes.now 1 _ c.requires.goes (omega (arith, c.requires.fit)) c.index-codes-1.is))

pub control::evaluate_if-evaluate-requires-else-holds : goal.control::evaluate_if-evaluate-requires-else-holds
control::evaluate_if-evaluate-requires-else-holds g t c = λ κs alive. (omega arith, (alive, Going.part_in c.args.context.now c.args.codes.now 2 _ c.requires.goes (omega (arith, c.requires.fit)) c.index-codes-2.is))

pub control::evaluate_begin-evaluate_parts-requires : goal.control::evaluate_begin-evaluate_parts-requires
control::evaluate_begin-evaluate_parts-requires g t c = λ κs alive. (omega arith, (alive, c.requires.goes))

pub control::evaluate_and-and_parts-requires : goal.control::evaluate_and-and_parts-requires
control::evaluate_and-and_parts-requires g t c = λ κs alive. (omega arith, (alive, c.requires.goes))

pub control::and_parts-evaluate_truth-requires : goal.control::and_parts-evaluate_truth-requires
control::and_parts-evaluate_truth-requires g t c = λ κs alive. (omega arith, (alive, Going.part_in c.args.context.now c.args.codes.now c.loop-code.code-index _ c.requires.goes c.loop-code-test.true c.code-item.is))

pub control::evaluate_or-or_parts-requires : goal.control::evaluate_or-or_parts-requires
control::evaluate_or-or_parts-requires g t c = λ κs alive. (omega arith, (alive, c.requires.goes))

pub control::or_parts-evaluate_truth-requires : goal.control::or_parts-evaluate_truth-requires
control::or_parts-evaluate_truth-requires g t c = λ κs alive. (omega arith, (alive, Going.part_in c.args.context.now c.args.codes.now c.loop-code.code-index _ c.requires.goes c.loop-code-test.true c.code-item.is))

pub control::evaluate_asserts-evaluate_truth-requires : goal.control::evaluate_asserts-evaluate_truth-requires
control::evaluate_asserts-evaluate_truth-requires g t c = λ κs alive. (omega arith, (alive, Going.part_in c.args.context.now c.args.codes.now 0 _ c.requires.goes (omega (arith, c.requires.fit)) c.index-codes-0.is))

pub control::evaluate_asserts-evaluate_thrown-requires : goal.control::evaluate_asserts-evaluate_thrown-requires
control::evaluate_asserts-evaluate_thrown-requires g t c = λ κs alive. (omega arith, (alive, Going.part_in c.args.context.now c.args.codes.now 1 _ c.requires.goes (omega (arith, c.requires.fit)) c.index-codes-1.is))

pub control::evaluate_unwrap-evaluate-requires : goal.control::evaluate_unwrap-evaluate-requires
control::evaluate_unwrap-evaluate-requires g t c = λ κs alive. (omega arith, (alive, Going.part_in c.args.context.now c.args.codes.now 0 _ c.requires.goes (omega (arith, c.requires.fit)) c.index-codes-0.is))

pub control::evaluate_unwrap-evaluate_thrown-requires : goal.control::evaluate_unwrap-evaluate_thrown-requires
control::evaluate_unwrap-evaluate_thrown-requires g t c = λ κs alive. (omega arith, (alive, Going.part_in c.args.context.now c.args.codes.now 1 _ c.requires.goes (omega (arith, c.requires.fit)) c.index-codes-1.is))

pub control::evaluate_unwrap_err-evaluate-requires : goal.control::evaluate_unwrap_err-evaluate-requires
control::evaluate_unwrap_err-evaluate-requires g t c = λ κs alive. (omega arith, (alive, Going.part_in c.args.context.now c.args.codes.now 0 _ c.requires.goes (omega (arith, c.requires.fit)) c.index-codes-0.is))

pub control::evaluate_unwrap_err-evaluate_thrown-requires : goal.control::evaluate_unwrap_err-evaluate_thrown-requires
control::evaluate_unwrap_err-evaluate_thrown-requires g t c = λ κs alive. (omega arith, (alive, Going.part_in c.args.context.now c.args.codes.now 1 _ c.requires.goes (omega (arith, c.requires.fit)) c.index-codes-1.is))

pub control::evaluate_try-evaluate-requires : goal.control::evaluate_try-evaluate-requires
control::evaluate_try-evaluate-requires g t c = λ κs alive. (omega arith, (alive, Going.part_in c.args.context.now c.args.codes.now 0 _ c.requires.goes (omega (arith, c.requires.fit)) c.index-codes-0.is))

pub control::evaluate_as_contract-evaluate-requires : goal.control::evaluate_as_contract-evaluate-requires
control::evaluate_as_contract-evaluate-requires g t c = λ κs alive. (omega arith, (alive, λ inside. Going.part_in c.args.context.now c.args.codes.now 0 _ c.requires.goes (omega (arith, c.requires.fit)) c.index-codes-0.is (Loops.same_home _ _ _ _ _ (sym (ap (λ (F : Frame). F.contract) c.as_contract-frame.ensures)) inside)))

pub control::evaluate_print-evaluate-requires : goal.control::evaluate_print-evaluate-requires
control::evaluate_print-evaluate-requires g t c = λ κs alive. (omega arith, (alive, Going.part_in c.args.context.now c.args.codes.now 0 _ c.requires.goes (omega (arith, c.requires.fit)) c.index-codes-0.is))

pub scopes::evaluate_match_optional-evaluate-requires : goal.scopes::evaluate_match_optional-evaluate-requires
scopes::evaluate_match_optional-evaluate-requires g t c = λ κs alive. (omega arith, (alive, Going.part_in c.args.context.now c.args.codes.now 0 _ c.requires.goes (omega (arith, c.requires.fit)) c.index-codes-0.is))

pub scopes::evaluate_match_optional-evaluate_with-requires : goal.scopes::evaluate_match_optional-evaluate_with-requires
scopes::evaluate_match_optional-evaluate_with-requires g t c = λ κs alive. (omega arith, (alive, Going.part_in c.args.context.now c.args.codes.now 1 _ c.requires.goes (omega (arith, c.requires.fit)) c.index-codes-1.is))

pub scopes::evaluate_match_response-evaluate-requires : goal.scopes::evaluate_match_response-evaluate-requires
scopes::evaluate_match_response-evaluate-requires g t c = λ κs alive. (omega arith, (alive, Going.part_in c.args.context.now c.args.codes.now 0 _ c.requires.goes (omega (arith, c.requires.fit)) c.index-codes-0.is))

pub scopes::evaluate_match_response-evaluate_with-requires : goal.scopes::evaluate_match_response-evaluate_with-requires
scopes::evaluate_match_response-evaluate_with-requires g t c = λ κs alive. (omega arith, (alive, Going.part_in c.args.context.now c.args.codes.now 1 _ c.requires.goes (omega (arith, c.requires.fit)) c.index-codes-1.is))

pub scopes::evaluate_match_optional-evaluate-requires-in-Bad : goal.scopes::evaluate_match_optional-evaluate-requires-in-Bad
scopes::evaluate_match_optional-evaluate-requires-in-Bad g t c = λ κs alive. (omega arith, (alive, Going.part_in c.args.context.now c.args.codes.now 2 _ c.requires.goes (omega (arith, c.requires.fit)) c.index-codes-2.is))

pub scopes::evaluate_match_response-evaluate_with-requires-in-Bad : goal.scopes::evaluate_match_response-evaluate_with-requires-in-Bad
scopes::evaluate_match_response-evaluate_with-requires-in-Bad g t c = λ κs alive. (omega arith, (alive, Going.part_in c.args.context.now c.args.codes.now 2 _ c.requires.goes (omega (arith, c.requires.fit)) c.index-codes-2.is))

pub scopes::evaluate_with-evaluate-requires : goal.scopes::evaluate_with-evaluate-requires
scopes::evaluate_with-evaluate-requires g t c = λ κs alive. (omega arith, (alive, c.requires.goes))

pub scopes::evaluate_in-evaluate-requires : goal.scopes::evaluate_in-evaluate-requires
scopes::evaluate_in-evaluate-requires g t c = λ κs alive. (omega arith, (alive, c.requires.goes))

pub scopes::evaluate_let-evaluate_bindings-requires : goal.scopes::evaluate_let-evaluate_bindings-requires
scopes::evaluate_let-evaluate_bindings-requires g t c = λ κs alive. (omega arith, (alive, (omega (arith, c.requires.fit), c.requires.goes)))

pub scopes::evaluate_let-evaluate_parts-requires : goal.scopes::evaluate_let-evaluate_parts-requires
scopes::evaluate_let-evaluate_parts-requires g t c = λ κs alive. (omega arith, (alive, Going.rest_in c.args.context.now c.args.codes.now _ _ c.requires.goes))

pub scopes::evaluate_bindings-evaluate_in-requires : goal.scopes::evaluate_bindings-evaluate_in-requires
scopes::evaluate_bindings-evaluate_in-requires g t c = λ κs alive. (omega arith, (alive, Going.part_in c.args.context.now c.args.codes.now c.loop-binding.place _ c.requires.goes (omega (arith, c.loop-binding-test.true, c.loop-binding.invariant.at, c.requires.fit)) c.index-codes-place.is))

pub calls::evaluate_call-evaluate_parts-requires : goal.calls::evaluate_call-evaluate_parts-requires
calls::evaluate_call-evaluate_parts-requires g t c = λ κs alive. (omega arith, (alive, c.requires.goes))

pub calls::evaluate_call-enter-requires : goal.calls::evaluate_call-enter-requires
calls::evaluate_call-enter-requires g t c = λ κs alive. (omega arith, (alive, (omega (arith, c.in_ok-values.ensures.count, c.requires.few), λ fits. Going.found_goes _ _ _ c.in-Some.is (c.own_function.ensures.goes fits))))

pub calls::enter-evaluate_body-requires : goal.calls::enter-evaluate_body-requires
calls::enter-evaluate_body-requires g t c = λ κs alive. (omega arith, (alive, c.requires.goes))

pub calls::evaluate_body-evaluate-requires : goal.calls::evaluate_body-evaluate-requires
calls::evaluate_body-evaluate-requires g t c = λ κs alive. (omega arith, (alive, c.requires.goes))

pub calls::evaluate_body-evaluate-answer-requires : goal.calls::evaluate_body-evaluate-answer-requires
calls::evaluate_body-evaluate-answer-requires g t c = λ κs alive. (omega arith, (alive, c.requires.goes))

pub across::evaluate_contract_call-evaluate_parts-requires : goal.across::evaluate_contract_call-evaluate_parts-requires
across::evaluate_contract_call-evaluate_parts-requires g t c = λ κs alive. (omega arith, (alive, c.requires.goes))

pub across::enter_there-enter-requires : goal.across::enter_there-enter-requires
across::enter_there-enter-requires g t c = λ κs alive. (omega arith, (alive, (omega (arith, c.requires), λ inside. Going.found_goes _ _ _ c.in-Some.is c.callable.ensures.goes)))

pub tuples::evaluate_as_max_len-evaluate-requires : goal.tuples::evaluate_as_max_len-evaluate-requires
tuples::evaluate_as_max_len-evaluate-requires g t c = λ κs alive. (omega arith, (alive, Going.part_in c.args.context.now c.args.codes.now 0 _ c.requires.goes (omega (arith, c.requires.fit)) c.index-codes-0.is))

pub tuples::evaluate_tuple-evaluate_parts-requires : goal.tuples::evaluate_tuple-evaluate_parts-requires
tuples::evaluate_tuple-evaluate_parts-requires g t c = λ κs alive. (omega arith, (alive, c.requires.goes))

pub tuples::evaluate_tuple_of-evaluate_tuple-requires : goal.tuples::evaluate_tuple_of-evaluate_tuple-requires
tuples::evaluate_tuple_of-evaluate_tuple-requires g t c = λ κs alive. (omega arith, (alive, (c.requires.few, (c.requires.fit ∙ sym (ap length (c.deref.ensures.value ∙ c.in_ok-keys.ensures) ∙ length-map c.args.pairs.now (λ (b : Binding). b.word.name)), (ap are_once (c.deref.ensures.value ∙ c.in_ok-keys.ensures) ∙ c.requires.apart, c.requires.goes)))))

pub stx::evaluate_stx-evaluate-requires : goal.stx::evaluate_stx-evaluate-requires
stx::evaluate_stx-evaluate-requires g t c = λ κs alive. (omega arith, (alive, Going.part_in c.args.context.now c.args.codes.now 0 _ c.requires.goes (omega (arith, c.requires.fit)) c.index-codes-0.is))

pub stx::evaluate_send_stx-evaluate_parts-requires : goal.stx::evaluate_send_stx-evaluate_parts-requires
stx::evaluate_send_stx-evaluate_parts-requires g t c = λ κs alive. (omega arith, (alive, c.requires.goes))

pub stx::evaluate_burn_stx-evaluate_parts-requires : goal.stx::evaluate_burn_stx-evaluate_parts-requires
stx::evaluate_burn_stx-evaluate_parts-requires g t c = λ κs alive. (omega arith, (alive, c.requires.goes))

pub iterate::evaluate_iteration-evaluate_map-requires : goal.iterate::evaluate_iteration-evaluate_map-requires
iterate::evaluate_iteration-evaluate_map-requires g t c = λ κs alive. (omega arith, (alive, (c.requires.own, (c.requires.few, (c.requires.applies, c.requires.goes)))))

pub iterate::evaluate_fold-evaluate-requires : goal.iterate::evaluate_fold-evaluate-requires
iterate::evaluate_fold-evaluate-requires g t c = λ κs alive. (omega arith, (alive, Going.part_in c.args.context.now c.args.codes.now 0 _ c.requires.goes (omega (arith, c.requires.fit)) c.index-codes-0.is))

pub iterate::evaluate_fold-evaluate-requires-2 : goal.iterate::evaluate_fold-evaluate-requires-2
iterate::evaluate_fold-evaluate-requires-2 g t c = λ κs alive. (omega arith, (alive, Going.part_in c.args.context.now c.args.codes.now 1 _ c.requires.goes (omega (arith, c.requires.fit)) c.index-codes-1.is))

pub iterate::evaluate_fold-fold-requires : goal.iterate::evaluate_fold-fold-requires
iterate::evaluate_fold-fold-requires g t c = λ κs alive. (omega arith, (alive, λ fits. Going.callee_goes _ _ _ c.in-Some.is (c.callee_named.ensures.goes fits)))

pub iterate::evaluate_map-evaluate_parts-requires : goal.iterate::evaluate_map-evaluate_parts-requires
iterate::evaluate_map-evaluate_parts-requires g t c = λ κs alive. (omega arith, (alive, c.requires.goes))

pub iterate::evaluate_map-map_rows-requires : goal.iterate::evaluate_map-map_rows-requires
iterate::evaluate_map-map_rows-requires g t c = λ κs alive. (omega arith, (alive, (omega (arith, ap length c.deref-in-Some.ensures.value, c.in_ok-values.ensures.count, c.requires.few), λ fits. Going.callee_goes _ _ _ c.in-Some.is (c.callee_named.ensures.goes fits))))

pub iterate::evaluate_filter-evaluate-requires : goal.iterate::evaluate_filter-evaluate-requires
iterate::evaluate_filter-evaluate-requires g t c = λ κs alive. (omega arith, (alive, Going.part_in c.args.context.now c.args.codes.now 0 _ c.requires.goes (omega (arith, c.requires.fit)) c.index-codes-0.is))

pub iterate::evaluate_filter-filter-requires : goal.iterate::evaluate_filter-filter-requires
iterate::evaluate_filter-filter-requires g t c = λ κs alive. (omega arith, (alive, λ fits. Going.callee_goes _ _ _ c.in-Some.is (c.callee_named.ensures.goes fits)))

pub iterate::map_rows-apply_each-requires : goal.iterate::map_rows-apply_each-requires
iterate::map_rows-apply_each-requires g t c = λ κs alive. (omega arith, (alive, (c.requires.few, c.requires.goes)))

pub iterate::fold-apply-requires : goal.iterate::fold-apply-requires
iterate::fold-apply-requires g t c = λ κs alive. (omega arith, (alive, (omega (arith, ap length c.in_ok-values-in-Some-2.ensures), c.requires.goes)))

pub iterate::apply-enter-requires : goal.iterate::apply-enter-requires
iterate::apply-enter-requires g t c = λ κs alive. (omega arith, (alive, (omega (arith, c.requires.few), Going.body_in c.args.context.now _ _ c.in-Function.is c.requires.goes)))
