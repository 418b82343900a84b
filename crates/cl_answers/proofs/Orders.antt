-- A text has forms in an order, or a first break before that.
use Rattle.std.proofs.Common.{◌≡◌, ◌⊎◌, inl, inr, ℕ, List, [], Option, Some, None, Result, Ok, Err, refl, sym}
use Rattle.cl_sexpr.specs.declared.sexpr.Span.{Span}
use Rattle.cl_sexpr.specs.declared.rule.Rule.{Rule}
use Rattle.cl_sexpr.specs.declared.rule.Rule.TheVariants.{Cycle}
use Rattle.cl_sexpr.specs.declared.rule.Break.{Break}
use Rattle.cl_sexpr.specs.Tree.{Forest}
use Rattle.cl_sexpr.specs.Text.{Reads, ReadsOrBreaks}
use Rattle.cl_forms.specs.Texts.{Text}
use Rattle.cl_forms.specs.Forms.{Form}
use Rattle.cl_forms.specs.FormBreaks.{AreForms, IsFirstBreak}
use Rattle.cl_forms.specs.Order.{ordered, names_at}
use Rattle.cl_forms.specs.Cycle.{first_span, IsOfTheCycle}
use Rattle.cl_forms.specs.Shapes.{trees_of}
use Rattle.cl_rules.specs.Acceptance.{Ordered, FirstUnordered, in_text, in_forms, in_order}
use Rattle.cl_order.proofs.Refused.{span_there}
use Rattle.cl_answers.specs.Laws.{EachHasOrder}
use Rattle.cl_answers.proofs.FormsOrBreak.{forms_or_break}

abbrev HasOrder : Text → Type 0
HasOrder text =
    ((forms : List Form) × (order : List ℕ) × Ordered text forms order)
    ⊎ ((rule : Rule) × (span : Span) × (names : List (List ℕ)) × FirstUnordered text rule span names)

-- the cycle that is met begins with a form
of_cycle : (forms : List Form) (places : List ℕ) → ordered forms ≡ Err places → (span : Span) × IsOfTheCycle forms Cycle span (names_at forms places)
of_cycle forms places met = by (first_span forms places) refl
  where
    by : (o : Option Span) → first_span forms places ≡ o → (span : Span) × IsOfTheCycle forms Cycle span (names_at forms places)
    by None is = absurd (span_there forms places met (sym is))
    by (Some span) is = (span, record { places = places; met = met; rule_is = refl; span_is = is; names_are = refl })

module _ (text : Text) (items : Forest) (reads : Reads text.bytes items) where
  order_or_cycle : (forms : List Form) → AreForms text.version (trees_of items) forms → (o : Result (List ℕ) (List ℕ)) → ordered forms ≡ o → HasOrder text
  order_or_cycle forms are (Ok order) is = inl (forms, order, record { items = items; reads = reads; are_forms = are; order_is = is })
  order_or_cycle forms are (Err places) is =
      let cycle = of_cycle forms places is in
      inr (Cycle, cycle.0, names_at forms places, in_order items forms reads are cycle.1)

  items_have_order : ((forms : List Form) × AreForms text.version (trees_of items) forms) ⊎ ((r : Break) × IsFirstBreak text.version (trees_of items) r) → HasOrder text
  items_have_order (inl there) = order_or_cycle there.0 there.1 (ordered there.0) refl
  items_have_order (inr first) = inr (first.0.rule, first.0.span, [], in_forms items first.0 reads first.1 refl refl refl)

text_has_order : (text : Text) → ReadsOrBreaks text.bytes → HasOrder text
text_has_order text (inl read) = items_have_order text read.0 read.1 (forms_or_break text.version (trees_of read.0))
text_has_order text (inr broken) = inr (broken.0.rule, broken.0.span, [], in_text broken.0 broken.1 refl refl refl)

pub each_has_order : ((bytes : List ℕ) → ReadsOrBreaks bytes) → EachHasOrder
each_has_order decided text = text_has_order text (decided text.bytes)
