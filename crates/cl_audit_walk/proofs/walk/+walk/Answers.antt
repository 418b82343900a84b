-- The walk: each function is put together as its answer is, by the rules of proofs/Rules.antt.
use Rattle.std.proofs.Common.{◌<◌, ◌-◌, ◌++◌, ◌∷◌, [], length, option_map, refl, sym, ap, ◌∙◌, arith}
use Rattle.std.proofs.lemmas.List.{drop_all}
use Rattle.std.proofs.lemmas.Result.{err_from_is_err_and}
use Rattle.cl_values.proofs.Lists.{next_part}
use Rattle.cl_values.specs.Computed.{Gives}
use Rattle.cl_values.specs.Tree.{ListV, items_of}
use Rattle.cl_forms.specs.NativeRows.{row_seen}
use Rattle.cl_operands.specs.Sieved.{sieved_by}
use Rattle.cl_operands.proofs.RowLaws.{rows_next, rows_past, rows_end, some_sequence, none_if_not, entries_next, entries_past, entries_end}
use Rattle.cl_meaning.specs.Answers.{Wrong, stop}
use Rattle.cl_meaning.specs.Meaning.{means, applied}
use Rattle.cl_state.specs.Stack.{Stack}
use Rattle.cl_audit_steps.specs.Items.{fields_seen}
use Rattle.cl_audit_steps.specs.Seen.{callee_seen, function_seen, seen}
use Rattle.cl_audit_walk.specs.Turns.{field_taken}
use Rattle.cl_audit_walk.proofs.Rules.{so, goes_on, stopped, paid, unpaid, gives, throws, aborts, is_wrong, forgets, does}
use Rattle.cl_audit_walk.proofs.Nodes.{span_is, at_part, at_last, at_bottom, node_stopped, node_looked, at_first, turn, turn_stopped, turn_forgot, at_end, parts_in_turn, tuple_in_turn, field_ok, field_err, at_fields, leads_first, linked, link_stopped, chain_end}
use Rattle.cl_audit_walk.proofs.Applying.{elsewhere, at_names, at_parts, at_values, at_bound, none_deeper, entered, other_ends, public_ends, lets_first, no_let, let_stopped, let_unpaid, let_turn, let_end}
use Rattle.cl_audit_walk.proofs.Iterating.{computes, none_named, named_stopped, named_looked, at_callee, results_known, results_unknown, map_results, mapped_at, filter_results, kept_results, folds_first, fold_turn, fold_stopped, fold_end, fold_known, fold_unknown}
use Rattle.cl_audit_walk.proofs.walk.+walk.Goals as goal

pub begin-returns-in_err-pay : goal.begin-returns-in_err-pay
begin-returns-in_err-pay t c = unpaid c.args.scope.now _ _ _ _ _ _ (err_from_is_err_and c.from_residual.result c.from_residual.ensures.1) c.in_err-pay.ensures

pub begin-returns-in-Ends : goal.begin-returns-in-Ends
begin-returns-in-Ends t c = paid c.args.scope.now _ _ _ _ _ _ _ c.in_ok-pay.ensures (at_part c.args.scope.now (means c.args.below) (applied c.args.below) (seen c.args.scope.now c.args.names.now.values) _ _ _ _ _ c.in-Ends.is (c.end_as.ensures))

pub begin-returns-in_err-value-in-One : goal.begin-returns-in_err-value-in-One
begin-returns-in_err-value-in-One t c = paid c.args.scope.now _ _ _ _ _ _ _ c.in_ok-pay.ensures (at_part c.args.scope.now (means c.args.below) (applied c.args.below) (seen c.args.scope.now c.args.names.now.values) _ _ _ _ _ c.in-One.is (stopped c.args.scope.now _ _ _ _ _ _ (err_from_is_err_and c.from_residual-in_err-value-in-One.result c.from_residual-in_err-value-in-One.ensures.1) c.in_err-value-in-One.ensures))

pub begin-returns-in_err-values-in-All : goal.begin-returns-in_err-values-in-All
begin-returns-in_err-values-in-All t c = paid c.args.scope.now _ _ _ _ _ _ _ c.in_ok-pay.ensures (at_part c.args.scope.now (means c.args.below) (applied c.args.below) (seen c.args.scope.now c.args.names.now.values) _ _ _ _ _ c.in-All.is (stopped c.args.scope.now _ _ _ _ _ _ (err_from_is_err_and c.from_residual-in_err-values-in-All.result c.from_residual-in_err-values-in-All.ensures.1) c.in_err-values-in-All.ensures))

pub begin-returns-in_ok-on_all-in-All : goal.begin-returns-in_ok-on_all-in-All
begin-returns-in_ok-on_all-in-All t c = paid c.args.scope.now _ _ _ _ _ _ _ c.in_ok-pay.ensures (at_part c.args.scope.now (means c.args.below) (applied c.args.below) (seen c.args.scope.now c.args.names.now.values) _ _ _ _ _ c.in-All.is (goes_on c.args.scope.now _ _ _ _ _ _ _ c.in_ok-values-in-All.ensures (so c.args.scope.now _ _ _ _ _ (λ s. c.in_ok-on_all-in-All.ensures c.args.names.now.values (means c.args.below) (applied c.args.below) s) c.end-in-All.ensures)))

pub begin-returns-in-Truths : goal.begin-returns-in-Truths
begin-returns-in-Truths t c = paid c.args.scope.now _ _ _ _ _ _ _ c.in_ok-pay.ensures (at_part c.args.scope.now (means c.args.below) (applied c.args.below) (seen c.args.scope.now c.args.names.now.values) _ _ _ _ _ c.in-Truths.is (c.truths.ensures))

pub end-returns-in_err-pay : goal.end-returns-in_err-pay
end-returns-in_err-pay t c = unpaid c.args.scope.now _ _ _ _ _ _ (err_from_is_err_and c.from_residual.result c.from_residual.ensures.1) c.in_err-pay.ensures

pub end-returns : goal.end-returns
end-returns t c = paid c.args.scope.now _ _ _ _ _ _ _ c.in_ok-pay.ensures c.end_as.ensures

pub end_as-returns-in-Give : goal.end_as-returns-in-Give
end_as-returns-in-Give t c = at_last c.args.scope.now (means c.args.below) (applied c.args.below) (seen c.args.scope.now c.args.names.now.values) _ _ _ _ _ c.in-Give.is (gives c.args.scope.now _ _ _ refl)

pub end_as-returns-in-Throw : goal.end_as-returns-in-Throw
end_as-returns-in-Throw t c = at_last c.args.scope.now (means c.args.below) (applied c.args.below) (seen c.args.scope.now c.args.names.now.values) _ _ _ _ _ c.in-Throw.is (throws c.args.scope.now _ _)

pub end_as-returns-in-Abort : goal.end_as-returns-in-Abort
end_as-returns-in-Abort t c = at_last c.args.scope.now (means c.args.below) (applied c.args.below) (seen c.args.scope.now c.args.names.now.values) _ _ _ _ _ c.in-Abort.is (aborts c.args.scope.now _ _)

pub end_as-returns-in-Wrong : goal.end_as-returns-in-Wrong
end_as-returns-in-Wrong t c = at_last c.args.scope.now (means c.args.below) (applied c.args.below) (seen c.args.scope.now c.args.names.now.values) _ _ _ _ _ c.in-Wrong.is (is_wrong c.args.scope.now _)

pub end_as-returns-in-As : goal.end_as-returns-in-As
end_as-returns-in-As t c = at_last c.args.scope.now (means c.args.below) (applied c.args.below) (seen c.args.scope.now c.args.names.now.values) _ _ _ _ _ c.in-As.is (c.take.ensures)

pub end_as-returns-in-Throwing : goal.end_as-returns-in-Throwing
end_as-returns-in-Throwing t c = at_last c.args.scope.now (means c.args.below) (applied c.args.below) (seen c.args.scope.now c.args.names.now.values) _ _ _ _ _ c.in-Throwing.is (c.throw.ensures)

pub take-returns-then-depth-eq0 : goal.take-returns-then-depth-eq0
take-returns-then-depth-eq0 t c = at_bottom c.args.scope.now c.args.depth (seen c.args.scope.now c.args.names.now.values) c.args.item.now _ c.if-depth-eq0.true

pub take-returns-in_err-value : goal.take-returns-in_err-value
take-returns-in_err-value t c = node_stopped c.args.scope.now c.args.depth (seen c.args.scope.now c.args.names.now.values) c.args.item.now _ _ _ _ c.if-depth-eq0.false (err_from_is_err_and c.from_residual.result c.from_residual.ensures.1) c.in_err-value.ensures

pub take-returns : goal.take-returns
take-returns t c = node_looked c.args.scope.now c.args.depth (seen c.args.scope.now c.args.names.now.values) c.args.item.now _ _ _ _ _ c.if-depth-eq0.false c.in_ok-value.ensures (span_is _ _ _ c.item.view_is) c.look.ensures

pub take_all-push_reserved-requires : goal.take_all-push_reserved-requires
take_all-push_reserved-requires t c = let here : c.loop-item.item-index < length c.args.items.now = c.loop-item-test.true in
    omega (arith, here, c.loop-item.invariant.room, c.loop-item.invariant.count, c.loop-item.values.ok.0)

pub throw-returns-in_err-value : goal.throw-returns-in_err-value
throw-returns-in_err-value t c = stopped c.args.scope.now _ _ _ _ _ _ (err_from_is_err_and c.from_residual.result c.from_residual.ensures.1) c.in_err-value.ensures

pub throw-returns : goal.throw-returns
throw-returns t c = goes_on c.args.scope.now _ _ _ _ _ _ _ c.in_ok-value.ensures (throws c.args.scope.now _ _)

pub truths-loop-item-init : goal.truths-loop-item-init
truths-loop-item-init t c = leads_first c.args.scope.now c.args.kind (means c.args.below) (seen c.args.scope.now c.args.names.now.values) _ _

pub truths-returns-in_err-value : goal.truths-returns-in_err-value
truths-returns-in_err-value t c = let here : c.loop-item.item-index < length c.args.items.now = c.loop-item-test.true in
    link_stopped c.args.scope.now c.args.kind (means c.args.below) (seen c.args.scope.now c.args.names.now.values) _ _ _ _ _ _ _ _ here c.item-item.is (err_from_is_err_and c.from_residual.result c.from_residual.ensures.1) c.loop-item.invariant c.in_err-value.ensures

pub truths-returns-in-Ends : goal.truths-returns-in-Ends
truths-returns-in-Ends t c = let here : c.loop-item.item-index < length c.args.items.now = c.loop-item-test.true in
    linked c.args.scope.now c.args.kind (means c.args.below) (seen c.args.scope.now c.args.names.now.values) _ _ _ _ _ _ _ _ _ _ _ here c.item-item.is c.loop-item.invariant c.in_ok-value.ensures c.link.ensures c.in-Ends.is (gives c.args.scope.now _ _ _ refl)

pub truths-returns-in-Wrong : goal.truths-returns-in-Wrong
truths-returns-in-Wrong t c = let here : c.loop-item.item-index < length c.args.items.now = c.loop-item-test.true in
    linked c.args.scope.now c.args.kind (means c.args.below) (seen c.args.scope.now c.args.names.now.values) _ _ _ _ _ _ _ _ _ _ _ here c.item-item.is c.loop-item.invariant c.in_ok-value.ensures c.link.ensures c.in-Wrong.is (is_wrong c.args.scope.now _)

pub truths-loop-item-preserved : goal.truths-loop-item-preserved
truths-loop-item-preserved t c = let here : c.loop-item.item-index < length c.args.items.now = c.loop-item-test.true in
    λ r new f. linked c.args.scope.now c.args.kind (means c.args.below) (seen c.args.scope.now c.args.names.now.values) _ _ _ _ _ _ _ _ _ new r here c.item-item.is c.loop-item.invariant c.in_ok-value.ensures c.link.ensures c.in-More.is f

pub truths-returns : goal.truths-returns
truths-returns t c = chain_end c.args.scope.now c.args.kind (means c.args.below) (seen c.args.scope.now c.args.names.now.values) _ _ _ _ _ c.loop-item-test.false c.loop-item.invariant (c.link_end.ensures (means c.args.below) (seen c.args.scope.now c.args.names.now.values))

pub visit-returns-in_err-first : goal.visit-returns-in_err-first
visit-returns-in_err-first t c = forgets c.args.scope.now _ _ _ _ (err_from_is_err_and c.from_residual.result c.from_residual.ensures.1) refl

pub visit-returns : goal.visit-returns
visit-returns t c = so c.args.scope.now _ _ _ _ _ (λ s. c.in_ok-first.ensures (means c.args.below) (applied c.args.below) s) c.begin.ensures

pub begin-returns-in-Let : goal.begin-returns-in-Let
begin-returns-in-Let t c = paid c.args.scope.now _ _ _ _ _ _ _ c.in_ok-pay.ensures (at_part c.args.scope.now (means c.args.below) (applied c.args.below) (seen c.args.scope.now c.args.names.now.values) _ _ _ _ _ c.in-Let.is c.let_in.ensures)

pub end_as-returns-in-With : goal.end_as-returns-in-With
end_as-returns-in-With t c = at_last c.args.scope.now (means c.args.below) (applied c.args.below) (seen c.args.scope.now c.args.names.now.values) _ _ _ _ _ c.in-With.is (c.with.ensures)

pub end_as-returns-in-AsContract : goal.end_as-returns-in-AsContract
end_as-returns-in-AsContract t c = at_last c.args.scope.now (means c.args.below) (applied c.args.below) (seen c.args.scope.now c.args.names.now.values) _ _ _ _ _ c.in-AsContract.is (c.as_contract.ensures)

pub end_as-returns-in-Enter : goal.end_as-returns-in-Enter
end_as-returns-in-Enter t c = at_last c.args.scope.now (means c.args.below) (applied c.args.below) (seen c.args.scope.now c.args.names.now.values) _ _ _ _ _ c.in-Enter.is (at_values c.args.scope.now _ _ _ _ _ _ _ _ c.deref.ensures.value (c.enter.ensures c.args.names.now.values))

pub with-returns : goal.with-returns
with-returns t c = at_names c.args.scope.now c.args.below _ _ _ _ _ _ (ap (λ o. c.args.names.now.values ++ o) (c.in_ok-push.ensures.added ∙ ap (λ o. o ++ (c.args.bound.0.now, c.args.bound.1) ∷ []) c.new-own.ensures)) c.within.ensures

pub with-returns-in_err-push : goal.with-returns-in_err-push
with-returns-in_err-push t c = forgets c.args.scope.now _ _ _ _ (err_from_is_err_and c.from_residual.result c.from_residual.ensures.1) refl

pub within-returns : goal.within-returns
within-returns t c = at_names c.args.scope.now c.args.below _ _ _ _ _ _ c.within-inner.ensures c.take.ensures

pub as_contract-returns : goal.as_contract-returns
as_contract-returns t c = elsewhere c.args.scope.now _ _ _ _ _ refl c.take.ensures

pub enter-returns-then-depth-eq0 : goal.enter-returns-then-depth-eq0
enter-returns-then-depth-eq0 t c outer = none_deeper c.args.scope.now c.args.depth (seen c.args.scope.now outer) (function_seen c.args.function.now) c.args.values.now _ c.if-depth-eq0.true

pub enter-returns-in_err-charge : goal.enter-returns-in_err-charge
enter-returns-in_err-charge t c outer = forgets c.args.scope.now _ _ _ _ (err_from_is_err_and c.from_residual.result c.from_residual.ensures.1) refl

pub enter-returns-in_err-pay : goal.enter-returns-in_err-pay
enter-returns-in_err-pay t c outer = so c.args.scope.now _ _ _ _ _ (λ s. entered c.args.scope.now c.args.depth (seen c.args.scope.now outer) (function_seen c.args.function.now) c.args.values.now _ _ s c.if-depth-eq0.false c.in_ok-charge.ensures refl) (unpaid c.args.scope.now _ _ _ _ _ _ (err_from_is_err_and c.from_residual-in_err-pay.result c.from_residual-in_err-pay.ensures.1) c.in_err-pay.ensures)

pub enter-returns-in_err-own : goal.enter-returns-in_err-own
enter-returns-in_err-own t c outer = let h = (err_from_is_err_and c.from_residual-in_err-own.result c.from_residual-in_err-own.ensures.1) in
    so c.args.scope.now _ _ _ _ _ (λ s. entered c.args.scope.now c.args.depth (seen c.args.scope.now outer) (function_seen c.args.function.now) c.args.values.now _ _ s c.if-depth-eq0.false c.in_ok-charge.ensures refl) (paid c.args.scope.now _ _ _ _ _ _ _ c.in_ok-pay.ensures (c.in_err-own.ensures.bound _ _ h.0 h.1 h.2))

pub enter-returns : goal.enter-returns
enter-returns t c outer = so c.args.scope.now _ _ _ _ _ (λ s. entered c.args.scope.now c.args.depth (seen c.args.scope.now outer) (function_seen c.args.function.now) c.args.values.now _ _ s c.if-depth-eq0.false c.in_ok-charge.ensures refl) (paid c.args.scope.now _ _ _ _ _ _ _ c.in_ok-pay.ensures (c.in_ok-own.ensures.bound _ _ _ (at_bound c.args.scope.now (means (c.args.depth - 1)) (seen c.args.scope.now outer) (function_seen c.args.function.now) _ _ _ _ _ refl (c.body.ensures outer))))

pub body-returns-else-is_public : goal.body-returns-else-is_public
body-returns-else-is_public t c outer = other_ends c.args.scope.now c.args.function.now.access (means c.args.below (seen c.args.scope.now c.args.own.now) c.args.function.now.body.now) _ _ _ _ (sym c.is_public.ensures ∙ c.if-is_public.false) c.take_early_return-else-is_public.ensures (at_names c.args.scope.now c.args.below _ _ _ _ _ _ c.alone-names.ensures c.take.ensures)

pub body-returns-in_err-push_layer : goal.body-returns-in_err-push_layer
body-returns-in_err-push_layer t c outer = forgets c.args.scope.now _ _ _ _ (err_from_is_err_and c.from_residual.result c.from_residual.ensures.1) (ap (λ (k : Stack). k.below) c.in_err-push_layer.ensures.refused)

pub body-returns-in_ok-push_layer : goal.body-returns-in_ok-push_layer
body-returns-in_ok-push_layer t c outer = public_ends c.args.scope.now (means c.args.below (seen c.args.scope.now c.args.own.now) c.args.function.now.body.now) _ _ _ _ refl c.in_ok-push_layer.ensures.done refl c.args.function.now.access _ _ _ (sym c.is_public.ensures ∙ c.if-is_public.true) c.take_early_return.ensures (at_names c.args.scope.now c.args.below _ _ _ _ _ _ c.alone-names.ensures c.take-answer.ensures) c.close.ensures

pub let_in-loop-item-init : goal.let_in-loop-item-init
let_in-loop-item-init t c = lets_first c.args.scope.now (means c.args.below) (seen c.args.scope.now c.args.names.now.values) c.args.body.now _ _ _ c.new-own.ensures

pub let_in-returns-in_default : goal.let_in-returns-in_default
let_in-returns-in_default t c = let here : c.loop-item.item-index < length c.args.bindings.now = c.loop-item-test.true in
    no_let c.args.scope.now (means c.args.below) (seen c.args.scope.now c.args.names.now.values) c.args.body.now _ _ _ _ _ _ here c.item-item.is c.in_default.ensures c.loop-item.invariant

pub let_in-returns-in_err-value : goal.let_in-returns-in_err-value
let_in-returns-in_err-value t c = let here : c.loop-item.item-index < length c.args.bindings.now = c.loop-item-test.true in
    let_stopped c.args.scope.now (means c.args.below) (seen c.args.scope.now c.args.names.now.values) c.args.body.now _ _ _ _ _ _ _ _ _ _ _ here c.item-item.is c.in-Some.ensures (err_from_is_err_and c.from_residual.result c.from_residual.ensures.1) c.loop-item.invariant (at_names c.args.scope.now c.args.below _ _ _ _ _ _ refl c.in_err-value.ensures)

pub let_in-returns-in_err-pay : goal.let_in-returns-in_err-pay
let_in-returns-in_err-pay t c = let here : c.loop-item.item-index < length c.args.bindings.now = c.loop-item-test.true in
    let_unpaid c.args.scope.now (means c.args.below) (seen c.args.scope.now c.args.names.now.values) c.args.body.now _ _ _ _ _ _ _ _ _ _ _ _ _ _ here c.item-item.is c.in-Some.ensures c.of.ensures (err_from_is_err_and c.from_residual-in_err-pay.result c.from_residual-in_err-pay.ensures.1) c.loop-item.invariant (at_names c.args.scope.now c.args.below _ _ _ _ _ _ refl c.in_ok-value.ensures) c.in_err-pay.ensures

pub let_in-loop-item-preserved : goal.let_in-loop-item-preserved
let_in-loop-item-preserved t c = let here : c.loop-item.item-index < length c.args.bindings.now = c.loop-item-test.true in
    let_turn c.args.scope.now (means c.args.below) (seen c.args.scope.now c.args.names.now.values) c.args.body.now _ _ _ _ _ _ _ _ _ _ _ _ _ _ here c.item-item.is c.in-Some.ensures c.of.ensures c.in_ok-push.ensures.added c.loop-item.invariant (at_names c.args.scope.now c.args.below _ _ _ _ _ _ refl c.in_ok-value.ensures) c.in_ok-pay.ensures

pub let_in-returns : goal.let_in-returns
let_in-returns t c = let_end c.args.scope.now (means c.args.below) (seen c.args.scope.now c.args.names.now.values) c.args.body.now _ _ _ _ _ _ _ c.loop-item-test.false c.loop-item.invariant (goes_on c.args.scope.now _ _ _ _ _ _ _ (at_parts c.args.scope.now _ _ _ _ _ _ _ c.within-inner.ensures c.in_ok-values.ensures) (so c.args.scope.now _ _ _ _ _ (λ s. c.last.ensures (seen c.args.scope.now c.within-inner.result.values) (means c.args.below) (applied c.args.below) s) c.end_as.ensures))

pub let_in-returns-in_err-values : goal.let_in-returns-in_err-values
let_in-returns-in_err-values t c = let_end c.args.scope.now (means c.args.below) (seen c.args.scope.now c.args.names.now.values) c.args.body.now _ _ _ _ _ _ _ c.loop-item-test.false c.loop-item.invariant (stopped c.args.scope.now _ _ _ _ _ _ (err_from_is_err_and c.from_residual-in_err-values.result c.from_residual-in_err-values.ensures.1) (at_parts c.args.scope.now _ _ _ _ _ _ _ c.within-inner.ensures c.in_err-values.ensures))

pub let_in-returns-in_err-push : goal.let_in-returns-in_err-push
let_in-returns-in_err-push t c = c.loop-item.invariant _ _ (forgets c.args.scope.now _ _ _ _ (err_from_is_err_and c.from_residual-in_err-push.result c.from_residual-in_err-push.ensures.1) (ap (λ (k : Stack). k.below) c.in_ok-pay.ensures.world ∙ c.in_ok-value.ensures.below))

pub begin-returns-in_ok-on_one-in-One : goal.begin-returns-in_ok-on_one-in-One
begin-returns-in_ok-on_one-in-One t c = paid c.args.scope.now _ _ _ _ _ _ _ c.in_ok-pay.ensures (at_part c.args.scope.now (means c.args.below) (applied c.args.below) (seen c.args.scope.now c.args.names.now.values) _ _ _ _ _ c.in-One.is (goes_on c.args.scope.now _ _ _ _ _ _ _ c.in_ok-value-in-One.ensures (so c.args.scope.now _ _ _ _ _ (λ s. c.in_ok-on_one-in-One.ensures c.args.names.now.values (means c.args.below) (applied c.args.below) s) c.end.ensures)))

pub begin-returns-in-Tuple : goal.begin-returns-in-Tuple
begin-returns-in-Tuple t c = paid c.args.scope.now _ _ _ _ _ _ _ c.in_ok-pay.ensures (at_part c.args.scope.now (means c.args.below) (applied c.args.below) (seen c.args.scope.now c.args.names.now.values) _ _ _ _ _ c.in-Tuple.is (at_fields c.args.scope.now (means c.args.below) (seen c.args.scope.now c.args.names.now.values) _ _ _ _ _ (ap fields_seen c.deref.ensures.value) c.tuple.ensures))

pub begin-returns-in-Read : goal.begin-returns-in-Read
begin-returns-in-Read t c = paid c.args.scope.now _ _ _ _ _ _ _ c.in_ok-pay.ensures (at_part c.args.scope.now (means c.args.below) (applied c.args.below) (seen c.args.scope.now c.args.names.now.values) _ _ _ _ _ c.in-Read.is (c.read.ensures))

pub begin-returns-in_err-value-in-Act : goal.begin-returns-in_err-value-in-Act
begin-returns-in_err-value-in-Act t c = paid c.args.scope.now _ _ _ _ _ _ _ c.in_ok-pay.ensures (at_part c.args.scope.now (means c.args.below) (applied c.args.below) (seen c.args.scope.now c.args.names.now.values) _ _ _ _ _ c.in-Act.is (stopped c.args.scope.now _ _ _ _ _ _ (err_from_is_err_and c.from_residual-in_err-value-in-Act.result c.from_residual-in_err-value-in-Act.ensures.1) c.in_err-value-in-Act.ensures))

pub begin-returns-in_ok-value-in-Act : goal.begin-returns-in_ok-value-in-Act
begin-returns-in_ok-value-in-Act t c = paid c.args.scope.now _ _ _ _ _ _ _ c.in_ok-pay.ensures (at_part c.args.scope.now (means c.args.below) (applied c.args.below) (seen c.args.scope.now c.args.names.now.values) _ _ _ _ _ c.in-Act.is (goes_on c.args.scope.now _ _ _ _ _ _ _ c.in_ok-value-in-Act.ensures c.act.ensures))

pub begin-returns-in_err-values-in-Acts : goal.begin-returns-in_err-values-in-Acts
begin-returns-in_err-values-in-Acts t c = paid c.args.scope.now _ _ _ _ _ _ _ c.in_ok-pay.ensures (at_part c.args.scope.now (means c.args.below) (applied c.args.below) (seen c.args.scope.now c.args.names.now.values) _ _ _ _ _ c.in-Acts.is (stopped c.args.scope.now _ _ _ _ _ _ (err_from_is_err_and c.from_residual-in_err-values-in-Acts.result c.from_residual-in_err-values-in-Acts.ensures.1) c.in_err-values-in-Acts.ensures))

pub begin-returns-in_ok-values-in-Acts : goal.begin-returns-in_ok-values-in-Acts
begin-returns-in_ok-values-in-Acts t c = paid c.args.scope.now _ _ _ _ _ _ _ c.in_ok-pay.ensures (at_part c.args.scope.now (means c.args.below) (applied c.args.below) (seen c.args.scope.now c.args.names.now.values) _ _ _ _ _ c.in-Acts.is (goes_on c.args.scope.now _ _ _ _ _ _ _ c.in_ok-values-in-Acts.ensures c.acts.ensures))

pub end_as-returns-in-EnterIn : goal.end_as-returns-in-EnterIn
end_as-returns-in-EnterIn t c = at_last c.args.scope.now (means c.args.below) (applied c.args.below) (seen c.args.scope.now c.args.names.now.values) _ _ _ _ _ c.in-EnterIn.is (at_values c.args.scope.now _ _ _ _ _ _ _ _ c.deref-in-EnterIn.ensures.value (c.enter_in.ensures c.args.names.now.values))

pub end_as-returns-in-Map : goal.end_as-returns-in-Map
end_as-returns-in-Map t c = at_last c.args.scope.now (means c.args.below) (applied c.args.below) (seen c.args.scope.now c.args.names.now.values) _ _ _ _ _ c.in-Map.is (mapped_at c.args.scope.now _ _ _ _ _ _ _ _ c.deref-in-Map.ensures.value (c.map_entries.ensures c.args.names.now.values))

pub end_as-returns-in-Filter : goal.end_as-returns-in-Filter
end_as-returns-in-Filter t c = at_last c.args.scope.now (means c.args.below) (applied c.args.below) (seen c.args.scope.now c.args.names.now.values) _ _ _ _ _ c.in-Filter.is (c.filter.ensures c.args.names.now.values)

pub end_as-returns-in-Fold : goal.end_as-returns-in-Fold
end_as-returns-in-Fold t c = at_last c.args.scope.now (means c.args.below) (applied c.args.below) (seen c.args.scope.now c.args.names.now.values) _ _ _ _ _ c.in-Fold.is (c.fold.ensures c.args.names.now.values)

pub take_all-loop-item-init : goal.take_all-loop-item-init
take_all-loop-item-init t c = record {
  onward = at_first c.args.scope.now (means c.args.below (seen c.args.scope.now c.args.names.now.values)) _ _ _ c.in_ok-values.ensures.items;
  room = omega (arith, c.in_ok-values.ensures.capacity);
  count = ap length c.in_ok-values.ensures.items;
}

pub take_all-returns-in_err-value : goal.take_all-returns-in_err-value
take_all-returns-in_err-value t c = let here : c.loop-item.item-index < length c.args.items.now = c.loop-item-test.true in
    so c.args.scope.now _ _ _ _ _ (parts_in_turn (means c.args.below) (seen c.args.scope.now c.args.names.now.values) c.args.items.now) (turn_stopped c.args.scope.now (means c.args.below (seen c.args.scope.now c.args.names.now.values)) _ _ _ _ _ _ _ _ _ _ (next_part c.args.items.now _ _ here c.item-item.is) (err_from_is_err_and c.from_residual-in_err-value.result c.from_residual-in_err-value.ensures.1) c.loop-item.invariant.onward c.in_err-value.ensures)

pub take_all-loop-item-preserved : goal.take_all-loop-item-preserved
take_all-loop-item-preserved t c = record {
  onward =
      let here : c.loop-item.item-index < length c.args.items.now = c.loop-item-test.true in
      turn c.args.scope.now (means c.args.below (seen c.args.scope.now c.args.names.now.values)) _ _ _ _ _ _ _ _ _ _ (next_part c.args.items.now _ _ here c.item-item.is) c.push_reserved.ensures.items c.loop-item.invariant.onward c.in_ok-value.ensures;
  room = omega (arith, c.loop-item.invariant.room, c.push_reserved.ensures.capacity);
  count = omega (arith, c.loop-item.invariant.count, c.push_reserved.ensures.len);
}

pub take_all-returns : goal.take_all-returns
take_all-returns t c = so c.args.scope.now _ _ _ _ _ (parts_in_turn (means c.args.below) (seen c.args.scope.now c.args.names.now.values) c.args.items.now) (at_end c.args.scope.now (means c.args.below (seen c.args.scope.now c.args.names.now.values)) _ _ _ _ _ (drop_all _ c.args.items.now c.loop-item-test.false) c.loop-item.invariant.onward)

pub take_fields-loop-field-init : goal.take_fields-loop-field-init
take_fields-loop-field-init t c = at_first c.args.scope.now (field_taken (means c.args.below) (seen c.args.scope.now c.args.names.now.values)) _ _ _ c.new-entries.ensures.items

pub take_fields-returns-in_err-value : goal.take_fields-returns-in_err-value
take_fields-returns-in_err-value t c = let here : c.loop-field.field-index < length c.args.fields.now = c.loop-field-test.true in
    turn_stopped c.args.scope.now (field_taken (means c.args.below) (seen c.args.scope.now c.args.names.now.values)) _ _ _ _ _ _ _ _ _ _ (ap fields_seen (next_part c.args.fields.now _ _ here c.field-item.is)) (err_from_is_err_and c.from_residual.result c.from_residual.ensures.1) c.loop-field.invariant (field_err c.args.scope.now (means c.args.below) (seen c.args.scope.now c.args.names.now.values) _ _ _ _ c.in_err-value.ensures)

pub take_fields-returns-in_err-push : goal.take_fields-returns-in_err-push
take_fields-returns-in_err-push t c = turn_forgot c.args.scope.now (field_taken (means c.args.below) (seen c.args.scope.now c.args.names.now.values)) _ _ _ _ _ _ _ (err_from_is_err_and c.from_residual-in_err-push.result c.from_residual-in_err-push.ensures.1) c.in_ok-value.ensures.below c.loop-field.invariant

pub take_fields-loop-field-preserved : goal.take_fields-loop-field-preserved
take_fields-loop-field-preserved t c = let here : c.loop-field.field-index < length c.args.fields.now = c.loop-field-test.true in
    turn c.args.scope.now (field_taken (means c.args.below) (seen c.args.scope.now c.args.names.now.values)) _ _ _ _ _ _ _ _ _ _ (ap fields_seen (next_part c.args.fields.now _ _ here c.field-item.is)) c.in_ok-push.ensures.items c.loop-field.invariant (field_ok c.args.scope.now (means c.args.below) (seen c.args.scope.now c.args.names.now.values) _ _ _ _ c.in_ok-value.ensures)

pub take_fields-returns : goal.take_fields-returns
take_fields-returns t c = at_end c.args.scope.now (field_taken (means c.args.below) (seen c.args.scope.now c.args.names.now.values)) _ _ _ _ _ (ap fields_seen (drop_all _ c.args.fields.now c.loop-field-test.false)) c.loop-field.invariant

pub tuple-returns-in_err-entries : goal.tuple-returns-in_err-entries
tuple-returns-in_err-entries t c = so c.args.scope.now _ _ _ _ _ (tuple_in_turn (means c.args.below) (seen c.args.scope.now c.args.names.now.values) (fields_seen c.args.fields.now)) (stopped c.args.scope.now _ _ _ _ _ _ (err_from_is_err_and c.from_residual.result c.from_residual.ensures.1) c.in_err-entries.ensures)

pub tuple-returns : goal.tuple-returns
tuple-returns t c = so c.args.scope.now _ _ _ _ _ (tuple_in_turn (means c.args.below) (seen c.args.scope.now c.args.names.now.values) (fields_seen c.args.fields.now)) (goes_on c.args.scope.now _ _ _ _ _ _ _ c.in_ok-entries.ensures (so c.args.scope.now _ _ _ _ _ (λ s. c.in_ok-on_tuple.ensures (seen c.args.scope.now c.args.names.now.values) (means c.args.below) (applied c.args.below) s) c.end.ensures))

pub read-returns-in_err-found : goal.read-returns-in_err-found
read-returns-in_err-found t c = forgets c.args.scope.now _ _ _ _ (err_from_is_err_and c.from_residual.result c.from_residual.ensures.1) refl

pub read-returns : goal.read-returns
read-returns t c = does c.args.scope.now _ _ _ _ _ _ (c.in_ok-found.ensures c.args.names.now.values (means c.args.below) (applied c.args.below)) refl refl c.end.ensures

pub act-returns-in_err-done : goal.act-returns-in_err-done
act-returns-in_err-done t c = forgets c.args.scope.now _ _ _ _ (err_from_is_err_and c.from_residual.result c.from_residual.ensures.1) (c.in_err-done.ensures c.args.names.now.values).below

pub act-returns : goal.act-returns
act-returns t c =
    let did = c.in_ok-done.ensures c.args.names.now.values in
    does c.args.scope.now _ _ _ _ _ _ (did.done (means c.args.below) (applied c.args.below)) refl did.below c.end.ensures

pub acts-returns-in_err-done : goal.acts-returns-in_err-done
acts-returns-in_err-done t c = forgets c.args.scope.now _ _ _ _ (err_from_is_err_and c.from_residual.result c.from_residual.ensures.1) (c.in_err-done.ensures c.args.names.now.values).below

pub acts-returns : goal.acts-returns
acts-returns t c =
    let did = c.in_ok-done.ensures c.args.names.now.values in
    does c.args.scope.now _ _ _ _ _ _ (did.done (means c.args.below) (applied c.args.below)) refl did.below c.end.ensures

pub enter_in-returns : goal.enter_in-returns
enter_in-returns t c outer = elsewhere c.args.scope.now _ _ _ _ _ refl (c.enter.ensures outer)

pub by_name-returns-then-depth-eq0 : goal.by_name-returns-then-depth-eq0
by_name-returns-then-depth-eq0 t c outer = none_named c.args.scope.now c.args.depth (seen c.args.scope.now outer) (row_seen c.args.row.now) c.args.span c.args.values.items _ c.if-depth-eq0.true

pub by_name-returns-in_err-on_name : goal.by_name-returns-in_err-on_name
by_name-returns-in_err-on_name t c outer = forgets c.args.scope.now _ _ _ _ (err_from_is_err_and c.from_residual.result c.from_residual.ensures.1) refl

pub by_name-returns-in_err-value : goal.by_name-returns-in_err-value
by_name-returns-in_err-value t c outer = named_stopped c.args.scope.now c.args.depth (seen c.args.scope.now outer) (row_seen c.args.row.now) c.args.span c.args.values.items _ _ _ _ c.if-depth-eq0.false (err_from_is_err_and c.from_residual-in_err-value.result c.from_residual-in_err-value.ensures.1) (so c.args.scope.now _ _ _ _ _ (λ s. c.in_ok-on_name.ensures (seen c.args.scope.now c.alone-names.result.values) (means (c.args.depth - 1)) (applied (c.args.depth - 1)) s) c.in_err-value.ensures)

pub by_name-returns : goal.by_name-returns
by_name-returns t c outer = named_looked c.args.scope.now c.args.depth (seen c.args.scope.now outer) (row_seen c.args.row.now) c.args.span c.args.values.items _ _ _ _ c.if-depth-eq0.false (so c.args.scope.now _ _ _ _ _ (λ s. c.in_ok-on_name.ensures (seen c.args.scope.now c.alone-names.result.values) (means (c.args.depth - 1)) (applied (c.args.depth - 1)) s) c.in_ok-value.ensures) c.look.ensures

pub apply-returns-in-Function : goal.apply-returns-in-Function
apply-returns-in-Function t c outer = at_callee c.args.scope.now c.args.depth (seen c.args.scope.now outer) _ _ _ _ _ _ c.in-Function.is (at_values c.args.scope.now _ _ _ _ _ _ _ _ c.deref.ensures.value (c.enter.ensures outer))

pub apply-returns-in-Native : goal.apply-returns-in-Native
apply-returns-in-Native t c outer = at_callee c.args.scope.now c.args.depth (seen c.args.scope.now outer) _ _ _ _ _ _ c.in-Native.is (c.by_name.ensures outer)

pub apply_each-returns-in_default : goal.apply_each-returns-in_default
apply_each-returns-in_default t c outer = so c.args.scope.now _ (stop Wrong) _ _ _ (λ s. results_unknown (applied c.args.below) (seen c.args.scope.now outer) (callee_seen c.args.callee.now) c.args.sequences.now s (sym c.width.ensures ∙ none_if_not _ c.in_default.not-Some)) (is_wrong c.args.scope.now _)

pub apply_each-loop-place-init : goal.apply_each-loop-place-init
apply_each-loop-place-init t c outer = at_first c.args.scope.now (applied c.args.below (seen c.args.scope.now outer) (callee_seen c.args.callee.now)) _ _ _ c.new-results.ensures.items

pub apply_each-returns-in_err-row : goal.apply_each-returns-in_err-row
apply_each-returns-in_err-row t c outer = so c.args.scope.now _ _ _ _ _ (λ s. results_known (applied c.args.below) (seen c.args.scope.now outer) (callee_seen c.args.callee.now) c.args.sequences.now _ s (sym c.width.ensures ∙ c.in-Some.is)) (turn_forgot c.args.scope.now (applied c.args.below (seen c.args.scope.now outer) (callee_seen c.args.callee.now)) _ _ _ _ _ _ _ (err_from_is_err_and c.from_residual.result c.from_residual.ensures.1) refl (c.loop-place.invariant outer))

pub apply_each-returns-in_err-value-in-Some-2 : goal.apply_each-returns-in_err-value-in-Some-2
apply_each-returns-in_err-value-in-Some-2 t c outer = so c.args.scope.now _ _ _ _ _ (λ s. results_known (applied c.args.below) (seen c.args.scope.now outer) (callee_seen c.args.callee.now) c.args.sequences.now _ s (sym c.width.ensures ∙ c.in-Some.is)) (turn_stopped c.args.scope.now (applied c.args.below (seen c.args.scope.now outer) (callee_seen c.args.callee.now)) _ _ _ _ _ _ _ _ _ _ (rows_next _ c.args.sequences.now _ (some_sequence _ c.args.sequences.now (sym c.width.ensures ∙ c.in-Some.is)) (sym c.in_ok-row.ensures.row ∙ ap (option_map (λ r. r.items)) c.in-Some-2.is)) (err_from_is_err_and c.from_residual-in_err-value-in-Some-2.result c.from_residual-in_err-value-in-Some-2.ensures.1) (c.loop-place.invariant outer) (c.in_err-value-in-Some-2.ensures outer))

pub apply_each-returns-in_err-push-in-Some-2 : goal.apply_each-returns-in_err-push-in-Some-2
apply_each-returns-in_err-push-in-Some-2 t c outer = so c.args.scope.now _ _ _ _ _ (λ s. results_known (applied c.args.below) (seen c.args.scope.now outer) (callee_seen c.args.callee.now) c.args.sequences.now _ s (sym c.width.ensures ∙ c.in-Some.is)) (turn_forgot c.args.scope.now (applied c.args.below (seen c.args.scope.now outer) (callee_seen c.args.callee.now)) _ _ _ _ _ _ _ (err_from_is_err_and c.from_residual-in_err-push-in-Some-2.result c.from_residual-in_err-push-in-Some-2.ensures.1) (c.in_ok-value-in-Some-2.ensures outer).below (c.loop-place.invariant outer))

pub apply_each-loop-place-preserved : goal.apply_each-loop-place-preserved
apply_each-loop-place-preserved t c outer = turn c.args.scope.now (applied c.args.below (seen c.args.scope.now outer) (callee_seen c.args.callee.now)) _ _ _ _ _ _ _ _ _ _ (rows_next _ c.args.sequences.now _ (some_sequence _ c.args.sequences.now (sym c.width.ensures ∙ c.in-Some.is)) (sym c.in_ok-row.ensures.row ∙ ap (option_map (λ r. r.items)) c.in-Some-2.is)) c.in_ok-push-in-Some-2.ensures.items (c.loop-place.invariant outer) (c.in_ok-value-in-Some-2.ensures outer)

pub apply_each-returns-in-None : goal.apply_each-returns-in-None
apply_each-returns-in-None t c outer = so c.args.scope.now _ _ _ _ _ (λ s. results_known (applied c.args.below) (seen c.args.scope.now outer) (callee_seen c.args.callee.now) c.args.sequences.now _ s (sym c.width.ensures ∙ c.in-Some.is)) (at_end c.args.scope.now (applied c.args.below (seen c.args.scope.now outer) (callee_seen c.args.callee.now)) _ _ _ _ _ (rows_past _ c.args.sequences.now (sym c.in_ok-row.ensures.row ∙ ap (option_map (λ r. r.items)) c.in-None.is)) (c.loop-place.invariant outer))

pub apply_each-returns : goal.apply_each-returns
apply_each-returns t c outer = so c.args.scope.now _ _ _ _ _ (λ s. results_known (applied c.args.below) (seen c.args.scope.now outer) (callee_seen c.args.callee.now) c.args.sequences.now _ s (sym c.width.ensures ∙ c.in-Some.is)) (at_end c.args.scope.now (applied c.args.below (seen c.args.scope.now outer) (callee_seen c.args.callee.now)) _ _ _ _ _ (rows_end _ _ c.args.sequences.now (sym c.width.ensures ∙ c.in-Some.is) c.loop-place-test.false) (c.loop-place.invariant outer))

pub map_entries-returns-in_err-results : goal.map_entries-returns-in_err-results
map_entries-returns-in_err-results t c outer = so c.args.scope.now _ _ _ _ _ (map_results (applied c.args.below) (seen c.args.scope.now outer) (callee_seen c.args.callee.now) c.args.sequences.now) (stopped c.args.scope.now _ _ _ _ _ _ (err_from_is_err_and c.from_residual.result c.from_residual.ensures.1) (c.in_err-results.ensures outer))

pub map_entries-returns : goal.map_entries-returns
map_entries-returns t c outer = so c.args.scope.now _ _ _ _ _ (map_results (applied c.args.below) (seen c.args.scope.now outer) (callee_seen c.args.callee.now) c.args.sequences.now) (goes_on c.args.scope.now _ _ _ _ _ _ _ (c.in_ok-results.ensures outer) (computes c.args.scope.now _ _ _ (c.computed_value.ensures (Gives (ListV (items_of c.in_ok-results.results.items))) c.list_of.ensures)))

pub filter-returns-in_err-results : goal.filter-returns-in_err-results
filter-returns-in_err-results t c outer = so c.args.scope.now _ _ _ _ _ (λ s. filter_results (applied c.args.below) (seen c.args.scope.now outer) (callee_seen c.args.callee.now) c.args.sequence _ s c.from_ref.ensures.value) (stopped c.args.scope.now _ _ _ _ _ _ (err_from_is_err_and c.from_residual.result c.from_residual.ensures.1) (c.in_err-results.ensures outer))

pub filter-returns : goal.filter-returns
filter-returns t c outer = so c.args.scope.now _ _ _ _ _ (λ s. filter_results (applied c.args.below) (seen c.args.scope.now outer) (callee_seen c.args.callee.now) c.args.sequence _ s c.from_ref.ensures.value) (goes_on c.args.scope.now _ _ _ _ _ _ _ (c.in_ok-results.ensures outer) (computes c.args.scope.now _ _ _ (kept_results c.args.sequence _ _ _ c.deref.ensures.value (c.computed_value.ensures (sieved_by c.args.sequence c.deref.result.now) c.sieve.ensures))))

pub fold-returns-in_default : goal.fold-returns-in_default
fold-returns-in_default t c outer = fold_unknown c.args.scope.now (applied c.args.below) (seen c.args.scope.now outer) (callee_seen c.args.callee.now) c.args.sequence.now c.args.first _ _ (none_if_not _ c.in_default.not-Some) c.try_len.ensures

pub fold-loop-place-init : goal.fold-loop-place-init
fold-loop-place-init t c outer = folds_first c.args.scope.now (applied c.args.below) (seen c.args.scope.now outer) (callee_seen c.args.callee.now) _ _ _

pub fold-returns-in_err-entry : goal.fold-returns-in_err-entry
fold-returns-in_err-entry t c outer = fold_known c.args.scope.now (applied c.args.below) (seen c.args.scope.now outer) (callee_seen c.args.callee.now) c.args.sequence.now c.args.first _ _ _ _ _ c.in-Some.is c.try_len.ensures (c.loop-place.invariant outer _ _ (forgets c.args.scope.now _ _ _ _ (err_from_is_err_and c.from_residual.result c.from_residual.ensures.1) refl))

pub fold-returns-in_err-values-in-Some-2 : goal.fold-returns-in_err-values-in-Some-2
fold-returns-in_err-values-in-Some-2 t c outer = fold_known c.args.scope.now (applied c.args.below) (seen c.args.scope.now outer) (callee_seen c.args.callee.now) c.args.sequence.now c.args.first _ _ _ _ _ c.in-Some.is c.try_len.ensures (c.loop-place.invariant outer _ _ (forgets c.args.scope.now _ _ _ _ (err_from_is_err_and c.from_residual-in_err-values-in-Some-2.result c.from_residual-in_err-values-in-Some-2.ensures.1) refl))

pub fold-returns-in_err-so_far-in-Some-2 : goal.fold-returns-in_err-so_far-in-Some-2
fold-returns-in_err-so_far-in-Some-2 t c outer = fold_known c.args.scope.now (applied c.args.below) (seen c.args.scope.now outer) (callee_seen c.args.callee.now) c.args.sequence.now c.args.first _ _ _ _ _ c.in-Some.is c.try_len.ensures (fold_stopped c.args.scope.now (applied c.args.below) (seen c.args.scope.now outer) (callee_seen c.args.callee.now) _ _ _ _ _ _ _ _ _ _ _ _ (entries_next _ c.args.sequence.now _ (sym c.in-Some-2.is ∙ c.in_ok-entry.ensures)) c.in_ok-values-in-Some-2.ensures (err_from_is_err_and c.from_residual-in_err-so_far-in-Some-2.result c.from_residual-in_err-so_far-in-Some-2.ensures.1) (c.loop-place.invariant outer) (c.in_err-so_far-in-Some-2.ensures outer))

pub fold-loop-place-preserved : goal.fold-loop-place-preserved
fold-loop-place-preserved t c outer = fold_turn c.args.scope.now (applied c.args.below) (seen c.args.scope.now outer) (callee_seen c.args.callee.now) _ _ _ _ _ _ _ _ _ _ _ (entries_next _ c.args.sequence.now _ (sym c.in-Some-2.is ∙ c.in_ok-entry.ensures)) c.in_ok-values-in-Some-2.ensures (c.loop-place.invariant outer) (c.in_ok-so_far-in-Some-2.ensures outer)

pub fold-returns-in-None : goal.fold-returns-in-None
fold-returns-in-None t c outer = fold_known c.args.scope.now (applied c.args.below) (seen c.args.scope.now outer) (callee_seen c.args.callee.now) c.args.sequence.now c.args.first _ _ _ _ _ c.in-Some.is c.try_len.ensures (fold_end c.args.scope.now (applied c.args.below) (seen c.args.scope.now outer) (callee_seen c.args.callee.now) _ _ _ _ _ _ (entries_past _ c.args.sequence.now (sym c.in-None.is ∙ c.in_ok-entry.ensures)) (c.loop-place.invariant outer))

pub fold-returns : goal.fold-returns
fold-returns t c outer = fold_known c.args.scope.now (applied c.args.below) (seen c.args.scope.now outer) (callee_seen c.args.callee.now) c.args.sequence.now c.args.first _ _ _ _ _ c.in-Some.is c.try_len.ensures (fold_end c.args.scope.now (applied c.args.below) (seen c.args.scope.now outer) (callee_seen c.args.callee.now) _ _ _ _ _ _ (entries_end _ _ c.args.sequence.now _ c.in-Some.is c.try_len.ensures c.loop-place-test.false) (c.loop-place.invariant outer))
