-- The first bound above the limit, place by place.
use Rattle.std.proofs.Common.{◌≡◌, ℕ, ◌+◌, ◌<◌, ◌≤◌, List, ◌∷◌, length, drop, get_or, slice_get, Option, Some, None, refl, ap, sym, ◌∙◌}
use Rattle.std.specs.Prelude.{option_map}
use Rattle.std.specs.List.{cons_option}
use Rattle.std.proofs.lemmas.List.{drop_all}
use Rattle.std.proofs.lemmas.Option.{slice_get-map}
use Rattle.cl_values.proofs.Lists.{rest_of}
use Rattle.cl_sexpr.specs.declared.sexpr.Span.{Span}
use Rattle.cl_shapes.specs.declared.cost.Cost5.{Cost5}
use Rattle.cl_shapes.specs.declared.cost.Dimension.{Dimension}
use Rattle.cl_shapes.specs.Costs.{first_above}
use Rattle.cl_forms.specs.Forms.{Form}
use Rattle.cl_code.specs.Definitions.{form_defined}
use Rattle.cl_code.specs.declared.definition.Definition.{Definition}
use Rattle.cl_rules.specs.Bills.{cost_under}
use Rattle.cl_rules.specs.Context.{CostTable, Signature}
use Rattle.cl_rules.specs.FormRules.{Defined}
use Rattle.cl_rules.specs.Acceptance.{most_cost, bound_at, bound_of, forms_at, nowhere}
use Rattle.cl_rules.specs.PlainProgram.{or_later, above_at, bound_stop}
use Rattle.cl_contracts.specs.declared.checked.Checked.{Checked}
use Rattle.cl_contracts.specs.Seen.{forms_of}
use Rattle.cl_bound.specs.declared.prices.Application.{Application}
use Rattle.cl_sums.specs.Sums.{told}
use Rattle.cl_bound.specs.Seen.{application_of}

-- ---- one function

-- whether a function's bound is above, from what is kept of it
pub over_some : (table : CostTable) (span : Span) (a : Application) (f : Option Signature) (o : Option Dimension) → Some a ≡ option_map (application_of table) f → ((b : Cost5) → a.bound ≡ told b → o ≡ first_above most_cost b) → option_map {U = Dimension × Span} (λ (d : Dimension). (d, span)) o ≡ above_at span table (bound_at f)
over_some table span a None o h above = absurd cc
over_some table span a (Some f) o h above =
    let same : a ≡ application_of table f = cc in
    ap (option_map {U = Dimension × Span} (λ (d : Dimension). (d, span))) (above (cost_under table f.bound) (ap (λ (b : Application). b.bound) same))

pub over_none : (table : CostTable) (span : Span) (f : Option Signature) → None ≡ option_map (application_of table) f → None ≡ above_at span table (bound_at f)
over_none table span None h = refl
over_none table span (Some f) h = absurd cc

-- ---- one place after another

module _ (checked : Checked) (table : CostTable) (D : Defined) where
  -- the stop among the forms at these places, and behind them
  abbrev pub stop_of : List ℕ → Option (Dimension × Span)
  stop_of places = bound_stop table D (forms_at (forms_of checked) places)

  form_next : (place : ℕ) (places : List ℕ) (o : Option Definition) → o ≡ slice_get checked.definitions.items place → forms_at (forms_of checked) (place ∷ places) ≡ cons_option (option_map form_defined o) (forms_at (forms_of checked) places)
  form_next place places o is =
      ap (λ (p : Option Form). cons_option p (forms_at (forms_of checked) places)) (slice_get-map form_defined checked.definitions.items place ∙ ap (option_map form_defined) (sym is))

  pub stop_here : (place : ℕ) (places : List ℕ) (d : Definition) (o : Option (Dimension × Span)) → Some d ≡ slice_get checked.definitions.items place → o ≡ above_at (form_defined d).span table (bound_of D (form_defined d)) → stop_of (place ∷ places) ≡ or_later o (stop_of places)
  stop_here place places d o there is =
      ap (bound_stop table D) (form_next place places (Some d) there) ∙ ap (λ (p : Option (Dimension × Span)). or_later p (stop_of places)) (sym is)

  pub stop_past : (place : ℕ) (places : List ℕ) → None ≡ slice_get checked.definitions.items place → stop_of (place ∷ places) ≡ or_later None (stop_of places)
  stop_past place places there = ap (bound_stop table D) (form_next place places None there)

  pub next_stop : (i place : ℕ) (o : Option (Dimension × Span)) → i < length checked.order.items → get_or checked.order.items i place ≡ place → ((places : List ℕ) → stop_of (place ∷ places) ≡ or_later o (stop_of places)) →
      stop_of checked.order.items ≡ stop_of (drop i checked.order.items) → stop_of checked.order.items ≡ or_later o (stop_of (drop (i + 1) checked.order.items))
  next_stop i place o lt at here left = left ∙ ap stop_of (rest_of checked.order.items i place lt at) ∙ here (drop (i + 1) checked.order.items)

  pub last_stop : (i : ℕ) (o : Option Dimension) → length checked.order.items ≤ i → o ≡ first_above most_cost (cost_under table D.deploy) → stop_of checked.order.items ≡ stop_of (drop i checked.order.items) → option_map {U = Dimension × Span} (λ (d : Dimension). (d, nowhere)) o ≡ stop_of checked.order.items
  last_stop i o far is left =
      ap (option_map {U = Dimension × Span} (λ (d : Dimension). (d, nowhere))) is ∙ sym (left ∙ ap stop_of (drop_all i checked.order.items far))
