use Rattle.std.proofs.Common.{◌≡◌, ◌+◌, ◌*◌, ◌<◌, ℕ, List, ◌∙◌, sym, ap, subst, Some, arith}
use Rattle.std.specs.Prelude.{Option, IfOk}
use Rattle.std.proofs.lemmas.Result.{err_from_is_err_and}
use Rattle.cl_types.specs.Types.{PlainType, Fields, fields}
use Rattle.cl_sexpr.specs.declared.sexpr.Node.{Node}
use Rattle.cl_sexpr.specs.Tree.{Tree, forest, pairs, tree_size}
use Rattle.cl_sexpr.specs.View.{tree_of}
use Rattle.cl_sexpr.specs.ViewFalls.{part_falls, pair_falls}
use Rattle.cl_forms.specs.Shapes.{binding_of}
use Rattle.cl_forms.specs.ItemView.{behind, first_atom}
use Rattle.cl_forms.specs.WrittenTypes.{type_of, fields_of, fields_of_pairs}
use Rattle.cl_forms.specs.TypeRoom.{within, list_by, and_more, field_within, fields_within}
use Rattle.cl_forms.specs.declared.type_word.TypeWord.{TypeWord}
use Rattle.cl_forms.specs.declared.type_word.TypeWord.TheVariants.{Tuple}
use Rattle.cl_forms.proofs.TypeSteps.{none_before, no_field, one_field, all_fields, no_part, one_part, all_parts, within_zero, type_of_list, pairs_made, list_made, optional_made, response_made, tuple_made}
use Rattle.cl_forms.proofs.types.+type_of.Goals as goal

one_below : (n t : ℕ) → n + 2 ≡ t → n + 1 < t
one_below n t e = omega (arith, e)

pub fields_of-returns-in-None : goal.fields_of-returns-in-None
fields_of-returns-in-None t c =
    no_field c.args.parts.now c.loop-part.part-index c.part-item.result c.loop-part-test.true c.args.room _ _ c.loop-part.invariant
    (sym c.in-None.is ∙ c.in_ok-field.ensures ∙ ap (λ e. field_within c.args.room (binding_of e)) c.part-item.is)

pub fields_of-loop-part-preserved : goal.fields_of-loop-part-preserved
fields_of-loop-part-preserved t c =
    rw c.in_ok-push-in-Some.ensures.items
    (one_field c.args.parts.now c.loop-part.part-index c.part-item.result c.loop-part-test.true c.args.room _ _ c.loop-part.invariant c.in-Some.field.0 c.in-Some.field.1
    (sym c.in-Some.is ∙ c.in_ok-field.ensures ∙ ap (λ e. field_within c.args.room (binding_of e)) c.part-item.is))

pub fields_of-returns : goal.fields_of-returns
fields_of-returns t c = all_fields _ _ _ _ _ c.loop-part-test.false c.loop-part.invariant

pub fields_of_pairs-returns-in-None : goal.fields_of_pairs-returns-in-None
fields_of_pairs-returns-in-None t c =
    no_part c.args.parts.now c.loop-part.part-index c.part-item.result c.loop-part-test.true c.args.room _ _ c.loop-part.invariant
    (sym c.in-None.is ∙ c.in_ok-field.ensures ∙ ap (λ p. field_within c.args.room (Some p)) c.part-item.is)

pub fields_of_pairs-loop-part-preserved : goal.fields_of_pairs-loop-part-preserved
fields_of_pairs-loop-part-preserved t c =
    rw c.in_ok-push-in-Some.ensures.items
    (one_part c.args.parts.now c.loop-part.part-index c.part-item.result c.loop-part-test.true c.args.room _ _ c.loop-part.invariant c.in-Some.field.0 c.in-Some.field.1
    (sym c.in-Some.is ∙ c.in_ok-field.ensures ∙ ap (λ p. field_within c.args.room (Some p)) c.part-item.is))

pub fields_of_pairs-returns : goal.fields_of_pairs-returns
fields_of_pairs-returns t c = all_parts _ _ _ _ _ c.loop-part-test.false c.loop-part.invariant

pub fields_of-field_of-requires : goal.fields_of-field_of-requires
fields_of-field_of-requires t c =
    (omega (arith, part_falls c.args.parts.now c.loop-part.part-index c.part-item.result c.loop-part-test.true, ap tree_size c.part-item.is, c.decreases), tt)

pub fields_of_pairs-field_in-requires : goal.fields_of_pairs-field_in-requires
fields_of_pairs-field_in-requires t c =
    (omega (arith, pair_falls c.args.parts.now c.loop-part.part-index c.part-item.result c.loop-part-test.true, ap (λ (p : List ℕ × Tree). tree_size p.1) c.part-item.is, c.decreases), tt)

pub type_of-returns-then-room-eq0 : goal.type_of-returns-then-room-eq0
type_of-returns-then-room-eq0 t c = within_zero c.args.item.now ∙ ap (λ (r : ℕ). within r (type_of c.args.item.now)) (sym c.if-room-eq0.true)

pub type_below-returns-in-List : goal.type_below-returns-in-List
type_below-returns-in-List t c =
    subst (λ (z : Option PlainType). IfOk c.type_in.result (λ o. o ≡ within (c.args.room + 1) z))
    (ap (λ (es : List Tree). list_by (first_atom es) (forest (behind es))) c.deref.ensures.value
    ∙ sym (type_of_list c.in-List.items.items c.item.inside.span)
    ∙ ap (λ (n : Node). type_of (tree_of n c.item.inside.span)) (sym c.in-List.is)
    ∙ ap type_of c.item.view_is)
    c.type_in.ensures

pub type_below-returns-in_ok-fields_of_pairs-in-Tuple : goal.type_below-returns-in_ok-fields_of_pairs-in-Tuple
type_below-returns-in_ok-fields_of_pairs-in-Tuple t c =
    c.tuple_type.ensures
    ∙ pairs_made c.in-Tuple.parts.items c.item.inside.span _ c.args.room
    (c.in_ok-fields_of_pairs-in-Tuple.ensures ∙ ap (λ (ps : List (List ℕ × Tree)). fields_within c.args.room (fields_of_pairs (pairs ps))) c.deref-in-Tuple.ensures.value)
    ∙ ap (λ (n : Node). within (c.args.room + 1) (type_of (tree_of n c.item.inside.span))) (sym c.in-Tuple.is)
    ∙ ap (λ (e : Tree). within (c.args.room + 1) (type_of e)) c.item.view_is

pub type_by-returns-in_ok-fields_of-in-Some-Tuple : goal.type_by-returns-in_ok-fields_of-in-Some-Tuple
type_by-returns-in_ok-fields_of-in-Some-Tuple t c =
    let is : c.args.word ≡ Some c.in-Some-Tuple.field-0 = c.in-Some-Tuple.is in
    let tuple : c.in-Some-Tuple.field-0 ≡ Tuple = rw is at c.in-Some-Tuple.field-0-is in
    c.tuple_type.ensures
    ∙ tuple_made c.args.parts.now c.args.word _ c.args.room (is ∙ ap (λ (w : TypeWord). Some w) tuple) c.in_ok-fields_of-in-Some-Tuple.ensures

pub list_of-returns-in_ok-entry-in-Some : goal.list_of-returns-in_ok-entry-in-Some
list_of-returns-in_ok-entry-in-Some t c =
    subst (λ (z : Option PlainType). IfOk c.list_type.result (λ o. o ≡ z))
    (list_made c.args.parts.now c.in-Some.most.now c.in-Some.entry.now c.stated_length.result c.in_ok-entry-in-Some.entry c.args.room c.in-Some.ensures c.stated_length.ensures c.in_ok-entry-in-Some.ensures)
    c.list_type.ensures

pub optional_of-returns-in_ok-part-in-Some : goal.optional_of-returns-in_ok-part-in-Some
optional_of-returns-in_ok-part-in-Some t c =
    subst (λ (z : Option PlainType). IfOk c.optional_type.result (λ o. o ≡ z))
    (optional_made c.args.parts.now c.in-Some.part.now c.in_ok-part-in-Some.part c.args.room c.in-Some.ensures c.in_ok-part-in-Some.ensures)
    c.optional_type.ensures

pub response_of-returns-in_ok-bad-in-Some : goal.response_of-returns-in_ok-bad-in-Some
response_of-returns-in_ok-bad-in-Some t c =
    subst (λ (z : Option PlainType). IfOk c.response_type.result (λ o. o ≡ z))
    (response_made c.args.parts.now c.in-Some.good.now c.in-Some.bad.now c.in_ok-good-in-Some.good c.in_ok-bad-in-Some.bad c.args.room c.in-Some.ensures c.in_ok-good-in-Some.ensures c.in_ok-bad-in-Some.ensures)
    c.response_type.ensures

pub fields_of-loop-part-init : goal.fields_of-loop-part-init
fields_of-loop-part-init t c =
    let whole : Option Fields = fields_within c.args.room (fields_of (forest c.args.parts.now)) in
    ap (λ (xs : List (List ℕ × PlainType)). and_more (fields xs) whole) c.new-list.ensures.items ∙ none_before whole

pub fields_of_pairs-loop-part-init : goal.fields_of_pairs-loop-part-init
fields_of_pairs-loop-part-init t c =
    let whole : Option Fields = fields_within c.args.room (fields_of_pairs (pairs c.args.parts.now)) in
    ap (λ (xs : List (List ℕ × PlainType)). and_more (fields xs) whole) c.new-list.ensures.items ∙ none_before whole

pub fields_of-returns-in_err-field : goal.fields_of-returns-in_err-field
fields_of-returns-in_err-field t c = let failed = err_from_is_err_and c.from_residual.result c.from_residual.ensures.1 in rw failed.1 tt

pub fields_of-returns-in_err-push-in-Some : goal.fields_of-returns-in_err-push-in-Some
fields_of-returns-in_err-push-in-Some t c = let failed = err_from_is_err_and c.from_residual-in_err-push-in-Some.result c.from_residual-in_err-push-in-Some.ensures.1 in rw failed.1 tt

pub fields_of_pairs-returns-in_err-field : goal.fields_of_pairs-returns-in_err-field
fields_of_pairs-returns-in_err-field t c = let failed = err_from_is_err_and c.from_residual.result c.from_residual.ensures.1 in rw failed.1 tt

pub fields_of_pairs-returns-in_err-push-in-Some : goal.fields_of_pairs-returns-in_err-push-in-Some
fields_of_pairs-returns-in_err-push-in-Some t c = let failed = err_from_is_err_and c.from_residual-in_err-push-in-Some.result c.from_residual-in_err-push-in-Some.ensures.1 in rw failed.1 tt

pub field_in-type_of-requires : goal.field_in-type_of-requires
field_in-type_of-requires t c = (one_below (4 * tree_size c.args.pair.now.1) t c.decreases, tt)
