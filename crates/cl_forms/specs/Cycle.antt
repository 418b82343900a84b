-- What definitions that name each other in a ring are refused with.
use Rattle.std.specs.Prelude.{◌≡◌, ℕ, List, [], ◌∷◌, Option, Some, None, option_map, slice_get, Err}
use Rattle.cl_sexpr.specs.declared.sexpr.Span.{Span}
use Rattle.cl_sexpr.specs.declared.rule.Rule.{Rule}
use Rattle.cl_sexpr.specs.declared.rule.Rule.TheVariants.{Cycle}
use Rattle.cl_forms.specs.Forms.{Form}
use Rattle.cl_forms.specs.Order.{ordered, names_at}

-- the span of the first of the forms at these places
abbrev pub first_span : List Form → List ℕ → Option Span
first_span forms [] = None
first_span forms (n ∷ ns) = option_map (λ f. f.span) (slice_get forms n)

-- a rule, a span and names are those of the cycle that is met when the forms are put into their order
pub record IsOfTheCycle (forms : List Form) (rule : Rule) (span : Span) (names : List (List ℕ)) : Type 0 where
  pub places : List ℕ
  pub met : ordered forms ≡ Err places
  pub rule_is : rule ≡ Cycle
  pub span_is : first_span forms places ≡ Some span
  pub names_are : names ≡ names_at forms places
