-- A source is accepted, or it has a first break.
use Rattle.std.proofs.Common.{◌≡◌, ◌⊎◌, inl, inr, ℕ, List, [], length, Option, Some, None, Ok, refl}
use Rattle.cl_c32.specs.declared.principal.Principal.{Principal}
use Rattle.cl_shapes.specs.declared.cost.Dimension.{Dimension}
use Rattle.cl_sexpr.specs.declared.sexpr.Span.{Span}
use Rattle.cl_sexpr.specs.declared.rule.Rule.{Rule}
use Rattle.cl_sexpr.specs.declared.rule.Rule.TheVariants.{WritesInReadOnly, BoundTooLarge}
use Rattle.cl_forms.specs.Texts.{Text}
use Rattle.cl_forms.specs.Forms.{Form}
use Rattle.cl_forms.specs.Order.{IsGoodOrder, ordered}
use Rattle.cl_rules.specs.Context.{CostTable, Known}
use Rattle.cl_rules.specs.FormRules.{Defined, nothing_defined}
use Rattle.cl_rules.specs.FormTyping.{FormsTyped, FirstFormBreak}
use Rattle.cl_rules.specs.Acceptance.{Ordered, TypedAs, forms_at, NoneWrites, Accepted, FirstUnordered, unordered, in_typing, in_writing, FirstBreakOf, before_bounds, in_bounds, in_deployment}
use Rattle.cl_rules.specs.PlainProgram.{bound_stop}
use Rattle.cl_rules.specs.Laws.{TextDecided, BoundStopIsFirst, NoStopIsBounded, IsFirstAboveLimit}
use Rattle.cl_answers.specs.Laws.{EachHasOrder, EachWritesOrNot, EachHasAnswer}
use Rattle.cl_answers.proofs.FirstWrites.{WritingEnds, writing_ends}

-- what is known of each pass
pub record Passes : Type 0 where
  pub order : EachHasOrder
  pub good : (forms : List Form) (order : List ℕ) → ordered forms ≡ Ok order → IsGoodOrder forms order
  pub typing : TextDecided
  pub writing : EachWritesOrNot
  pub stop : BoundStopIsFirst
  pub no_stop : NoStopIsBounded

module _ (passes : Passes) (deployed : List Known) (principal : Principal) (table : CostTable) (text : Text) where
  abbrev HasAnswer : Type 0
  HasAnswer = Accepted deployed principal table text ⊎ ((rule : Rule) × (span : Span) × (names : List (List ℕ)) × FirstBreakOf deployed principal table text rule span names)

  module _ (forms : List Form) (order : List ℕ) (is_ordered : Ordered text forms order) where
    module _ (defined : Defined) (typed : FormsTyped (nothing_defined deployed principal text.version (length text.bytes)) (forms_at forms order) defined) where
      typed_as : TypedAs deployed principal text forms order defined
      typed_as = record { is_ordered = is_ordered; are_typed = typed }

      above : NoneWrites deployed principal forms → (dimension : Dimension) (span : Span) → IsFirstAboveLimit defined forms order table dimension span → HasAnswer
      above none dimension span (inl bound) = inr (BoundTooLarge dimension, span, [], in_bounds forms order defined dimension typed_as none bound refl refl)
      above none dimension span (inr deployment) = inr (BoundTooLarge dimension, span, [], in_deployment forms order defined dimension typed_as none deployment.0 refl deployment.1 refl)

      bounds_end : NoneWrites deployed principal forms → (o : Option (Dimension × Span)) → bound_stop table defined (forms_at forms order) ≡ o → HasAnswer
      bounds_end none None is = inl (record { forms = forms; order = order; defined = defined; typed = typed_as; none_writes = none; bounded = passes.no_stop deployed principal text.version (length text.bytes) forms order defined table typed is })
      bounds_end none (Some at) is = above none at.0 at.1 (passes.stop deployed principal text.version (length text.bytes) forms order defined table at.0 at.1 typed is)

      typed_ends : WritingEnds deployed principal forms order → HasAnswer
      typed_ends (inl none) = bounds_end none (bound_stop table defined (forms_at forms order)) refl
      typed_ends (inr first) = inr (WritesInReadOnly, first.0, [], before_bounds (in_writing forms order defined typed_as first.1 refl refl))

    ordered_ends : ((E : Defined) × FormsTyped (nothing_defined deployed principal text.version (length text.bytes)) (forms_at forms order) E) ⊎ ((r : Rule) × (s : Span) × FirstFormBreak (nothing_defined deployed principal text.version (length text.bytes)) (forms_at forms order) r s) → HasAnswer
    ordered_ends (inl there) = typed_ends there.0 there.1 (writing_ends passes.writing deployed principal forms order (passes.good forms order is_ordered.order_is))
    ordered_ends (inr first) = inr (first.0, first.1, [], before_bounds (in_typing forms order is_ordered first.2 refl))

  text_ends : ((forms : List Form) × (order : List ℕ) × Ordered text forms order) ⊎ ((rule : Rule) × (span : Span) × (names : List (List ℕ)) × FirstUnordered text rule span names) → HasAnswer
  text_ends (inl there) = ordered_ends there.0 there.1 there.2 (passes.typing deployed principal text there.0 there.1 there.2)
  text_ends (inr first) = inr (first.0, first.1, first.2, before_bounds (unordered first.3))

pub each_has_answer : Passes → EachHasAnswer
each_has_answer passes deployed principal table text = text_ends passes deployed principal table text (passes.order text)
