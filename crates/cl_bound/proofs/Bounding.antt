-- Bounds of a whole contract.
use Rattle.std.proofs.Common.{◌≡◌, ℕ, List, [], ◌∷◌, map, filter_map, slice_get, Option, Some, None, refl, sym, subst, ◌∙◌}
use Rattle.std.specs.Prelude.{option_map}
use Rattle.std.specs.List.{cons_option}
use Rattle.std.proofs.lemmas.Option.{slice_get-map}
use Rattle.cl_c32.specs.declared.principal.Principal.{Principal}
use Rattle.cl_shapes.specs.declared.cost.Dimension.{Dimension}
use Rattle.cl_shapes.specs.declared.function.CostFn.{CostFn}
use Rattle.cl_sexpr.specs.declared.sexpr.Span.{Span}
use Rattle.cl_costs.specs.Tables.{function_of}
use Rattle.cl_forms.specs.Forms.{Form}
use Rattle.cl_code.specs.Definitions.{form_defined}
use Rattle.cl_code.specs.declared.definition.Definition.{Definition}
use Rattle.cl_rules.specs.Context.{Known}
use Rattle.cl_rules.specs.FormRules.{Defined, nothing_defined}
use Rattle.cl_rules.specs.FormTyping.{FormsTyped}
use Rattle.cl_rules.specs.Acceptance.{Bounded, forms_at}
use Rattle.cl_rules.specs.PlainProgram.{bound_stop}
use Rattle.cl_rules.specs.Laws.{IsFirstAboveLimit, BoundStopIsFirst, NoStopIsBounded}
use Rattle.cl_contracts.specs.declared.checked.Checked.{Checked}
use Rattle.cl_contracts.specs.Seen.{forms_of}
use Rattle.cl_contracts.specs.declared.contract.Contract.{Contract}
use Rattle.cl_contracts.specs.Standings.{AreStanding, StandsAfter, StandingIsTyped, definitions_in_order}
use Rattle.cl_bound.specs.declared.known.ContractBounds.{ContractBounds}
use Rattle.cl_bound.specs.declared.prices.Prices.{Prices}
use Rattle.cl_bound.specs.Known.{AreBoundsOf}
use Rattle.cl_bound.specs.Seen.{ShowFunctions, ShowsPrices}

one_form : (o : Option Definition) (ds : List Definition) → map form_defined (cons_option o ds) ≡ cons_option (option_map form_defined o) (map form_defined ds)
one_form None ds = refl
one_form (Some d) ds = refl

in_order : (ds : List Definition) (places : List ℕ) → map form_defined (filter_map (slice_get ds) places) ≡ filter_map (slice_get (map form_defined ds)) places
in_order ds [] = refl
in_order ds (p ∷ ps) =
    one_form (slice_get ds p) (filter_map (slice_get ds) ps)
    ∙ (λ i. cons_option (sym (slice_get-map form_defined ds p) i) (in_order ds ps i))

module _ (typing : StandingIsTyped) (known : List Known) (checked : Checked) (D : Defined) (stands : StandsAfter known checked D) where
  forms_typed : FormsTyped (nothing_defined known checked.principal checked.version checked.source_length) (forms_at (forms_of checked) checked.order.items) D
  forms_typed =
      subst (λ (forms : List Form). FormsTyped (nothing_defined known checked.principal checked.version checked.source_length) forms D) (in_order checked.definitions.items checked.order.items)
      (typing (nothing_defined known checked.principal checked.version checked.source_length) D (definitions_in_order checked) stands)

  pub all_bounded : NoStopIsBounded → (other costs : List CostFn) → other ≡ costs → None ≡ bound_stop (function_of other) D (forms_at (forms_of checked) checked.order.items) → Bounded D (forms_of checked) (function_of costs)
  all_bounded law other costs same none =
      subst (λ (t : List CostFn). Bounded D (forms_of checked) (function_of t)) same
      (law known checked.principal checked.version checked.source_length (forms_of checked) checked.order.items D (function_of other) forms_typed (sym none))

  pub first_above_all : BoundStopIsFirst → (other costs : List CostFn) (d : Dimension) (s u : Span) → other ≡ costs → u ≡ s → Some (d, s) ≡ bound_stop (function_of other) D (forms_at (forms_of checked) checked.order.items) → IsFirstAboveLimit D (forms_of checked) checked.order.items (function_of costs) d u
  first_above_all law other costs d s u same at some =
      subst (λ (v : Span). IsFirstAboveLimit D (forms_of checked) checked.order.items (function_of costs) d v) (sym at)
      (subst (λ (t : List CostFn). IsFirstAboveLimit D (forms_of checked) checked.order.items (function_of t) d s) same
      (law known checked.principal checked.version checked.source_length (forms_of checked) checked.order.items D (function_of other) d s forms_typed (sym some)))

-- what is kept of a contract's functions under a table, as the prices of its last definition show them
pub are_kept : (contracts : List (Principal × Contract)) (checked : Checked) (prices : Prices) (costs : List CostFn) (bounds : ContractBounds) → bounds.principal ≡ checked.principal → bounds.length ≡ checked.source_length → bounds.functions ≡ prices.functions → prices.costs ≡ costs →
    ((known : List Known) (D : Defined) → AreStanding [] contracts known → StandsAfter known checked D → ShowsPrices prices D.context) → AreBoundsOf (function_of costs) contracts checked bounds
are_kept contracts checked prices costs bounds own length functions same shows = record {
  principal = own;
  length = sym length;
  functions = λ known D stand stands.
      subst (λ (t : List CostFn). ShowFunctions (function_of t) D.context.functions bounds.functions.entries) same
      (subst (λ (fs : _). ShowFunctions (function_of prices.costs) D.context.functions fs.entries) (sym functions) (shows known D stand stands).functions);
}
