-- The first break of a text before its forms are looked at one by one is one.
use Rattle.std.proofs.Common.{◌≡◌, ℕ, List, Result, Ok, Err, sym, ap, ◌∙◌, subst}
use Rattle.cl_sexpr.specs.declared.sexpr.Span.{Span}
use Rattle.cl_sexpr.specs.declared.rule.Rule.{Rule}
use Rattle.cl_sexpr.specs.declared.rule.Break.{Break}
use Rattle.cl_sexpr.specs.Tree.{Forest}
use Rattle.cl_sexpr.specs.Text.{Reads, Breaks as BreaksText}
use Rattle.cl_forms.specs.Texts.{Text}
use Rattle.cl_forms.specs.Forms.{Form}
use Rattle.cl_forms.specs.FormBreaks.{AreForms, IsFirstBreak as IsFirstFormRule}
use Rattle.cl_forms.specs.Order.{names_at}
use Rattle.cl_forms.specs.Cycle.{first_span, IsOfTheCycle}
use Rattle.cl_forms.specs.Shapes.{trees_of}
use Rattle.cl_rules.specs.Acceptance.{FirstUnordered, in_text, in_forms, in_order}
use Rattle.cl_rules.proofs.Accepting.{Reading, some_same, items_same, forms_same}

abbrev err_or : {A B : Type 0} → B → Result A B → B
err_or d (Ok a) = d
err_or d (Err e) = e

err_same : {A B : Type 0} (a b : B) {r : Result A B} → r ≡ Err a → r ≡ Err b → a ≡ b
err_same a b e h = sym (ap (err_or a) e) ∙ ap (err_or a) h

-- what the reader's laws say of breaks, and of where items stand
pub record Firsts : Type 0 where
  pub reading : Reading
  pub first : (bytes : List ℕ) (b c : Break) → BreaksText bytes b → BreaksText bytes c → b ≡ c
  pub rules : (text : Text) (items : Forest) (b c : Break) → Reads text.bytes items → IsFirstFormRule text.version (trees_of items) b → IsFirstFormRule text.version (trees_of items) c → b ≡ c

abbrev pub Same : Rule → Span → List (List ℕ) → Rule → Span → List (List ℕ) → Type 0
Same r s n q u m = (r ≡ q) × (s ≡ u) × (n ≡ m)

module _ (known : Firsts) (text : Text) where
  text_reads : {b : Break} {items : Forest} → BreaksText text.bytes b → Reads text.bytes items → ⊥
  text_reads {b = b} {items = items} x reads = known.reading.either text.bytes items b reads x

  rule_forms : {items again : Forest} {b : Break} {forms : List Form} → Reads text.bytes items → IsFirstFormRule text.version (trees_of items) b → Reads text.bytes again → AreForms text.version (trees_of again) forms → ⊥
  rule_forms {b = b} reads x reads' are =
      let y = subst (λ i. IsFirstFormRule text.version (trees_of i) b) (items_same known.reading reads reads') x in are.unbroken y.place b y.breaks

  two_cycles : {forms : List Form} {r q : Rule} {s u : Span} {n m : List (List ℕ)} → IsOfTheCycle forms r s n → IsOfTheCycle forms q u m → Same r s n q u m
  two_cycles {forms = forms} {s = s} {u = u} x y =
      let c = err_same x.places y.places x.met y.met in (
        x.rule_is ∙ sym y.rule_is,
        some_same s u (sym x.span_is ∙ ap (first_span forms) c ∙ y.span_is),
        x.names_are ∙ ap (names_at forms) c ∙ sym y.names_are,
      )

  pub one_unordered : (r q : Rule) (s u : Span) (n m : List (List ℕ)) → FirstUnordered text r s n → FirstUnordered text q u m → Same r s n q u m
  one_unordered r q s u n m (in_text b x e f g) (in_text b' x' e' f' g') = let h = known.first text.bytes b b' x x' in (e ∙ ap (λ (k : Break). k.rule) h ∙ sym e', f ∙ ap (λ (k : Break). k.span) h ∙ sym f', g ∙ sym g')
  one_unordered r q s u n m (in_text b x e f g) (in_forms items' b' reads' x' e' f' g') = absurd (text_reads x reads')
  one_unordered r q s u n m (in_text b x e f g) (in_order items' forms' reads' are' x') = absurd (text_reads x reads')
  one_unordered r q s u n m (in_forms items b reads x e f g) (in_text b' x' e' f' g') = absurd (text_reads x' reads)
  one_unordered r q s u n m (in_forms items b reads x e f g) (in_forms items' b' reads' x' e' f' g') = let h = known.rules text items b b' reads x (subst (λ i. IsFirstFormRule text.version (trees_of i) b') (items_same known.reading reads' reads) x') in (e ∙ ap (λ (k : Break). k.rule) h ∙ sym e', f ∙ ap (λ (k : Break). k.span) h ∙ sym f', g ∙ sym g')
  one_unordered r q s u n m (in_forms items b reads x e f g) (in_order items' forms' reads' are' x') = absurd (rule_forms reads x reads' are')
  one_unordered r q s u n m (in_order items forms reads are x) (in_text b' x' e' f' g') = absurd (text_reads x' reads)
  one_unordered r q s u n m (in_order items forms reads are x) (in_forms items' b' reads' x' e' f' g') = absurd (rule_forms reads' x' reads are)
  one_unordered r q s u n m (in_order items forms reads are x) (in_order items' forms' reads' are' x') =
      two_cycles x (subst (λ fs. IsOfTheCycle fs q u m) (forms_same known.reading reads' are' reads are) x')
