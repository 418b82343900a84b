-- The forms of a source in their order, what is known of them, and what is refused before.
use Rattle.std.proofs.Common.{◌≡◌, ℕ, zero, suc, ◌*◌, ◌^◌, ◌≤◌, ◌<◌, List, [], ◌∷◌, length, slice_get, Option, Some, None, ap, Ok, refl, sym, subst, arith}
use Rattle.cl_types.specs.Fault.{IsRefusal}
use Rattle.cl_types.specs.declared.fault.Fault.{Fault}
use Rattle.cl_types.specs.declared.fault.Fault.TheVariants.{Refused, NoMemory}
use Rattle.cl_sexpr.specs.Tree.{Tree, tree_size, forest, forest_size, forest_depth}
use Rattle.cl_sexpr.specs.Text.{Reads, Breaks}
use Rattle.cl_sexpr.specs.declared.rule.Break.{Break}
use Rattle.cl_sexpr.specs.declared.rule.Refusal.{Refusal}
use Rattle.cl_forms.specs.declared.version.Version.{Version}
use Rattle.cl_forms.specs.Texts.{Text}
use Rattle.cl_forms.specs.Forms.{Form, FormKind, ConstantForm, VariableForm, MapForm, FungibleForm, NonFungibleForm, FunctionForm, ExpressionForm, expression_of}
use Rattle.cl_forms.specs.FormBreaks.{AreForms, IsFirstBreak}
use Rattle.cl_forms.specs.Order.{ordered}
use Rattle.cl_forms.specs.Cycle.{IsOfTheCycle}
use Rattle.cl_forms.specs.Depth.{NestsAtMost}
use Rattle.cl_forms.specs.Shapes.{trees_of}
use Rattle.cl_forms.specs.Weights.{weight_of_kind, weight_of_forms}
use Rattle.cl_forms.specs.Fits.{KindFits, FormsFit}
use Rattle.cl_rules.specs.Acceptance.{Ordered, FirstUnordered, in_text, in_forms, in_order}
use Rattle.cl_rules.specs.Judging.{nesting}
use Rattle.cl_check.specs.JudgingForms.{AreKnown, IsLow}
use Rattle.cl_check.proofs.TextNames.{form_named, names_apart, form_once}

trees_forest : (ts : List Tree) → trees_of (forest ts) ≡ ts
trees_forest [] = refl
trees_forest (t ∷ ts) = ap (λ (us : List Tree). t ∷ us) (trees_forest ts)

abbrev pub break_of : Refusal → Break
break_of r = record { rule = r.rule; span = r.span }

-- a fault is the refusal of this text
abbrev pub Refuses : Text → Fault Refusal → Type 0
Refuses text fault = IsRefusal fault (λ r. FirstUnordered text r.rule r.span r.names.items)

pub forms_of_row : (version : Version) (items : List Tree) (forms : List Form) → AreForms version items forms → AreForms version (trees_of (forest items)) forms
forms_of_row version items forms are = subst (λ (ts : List Tree). AreForms version ts forms) (sym (trees_forest items)) are

module _ (text : Text) where
  pub refused_text : (fault : Fault Refusal) → IsRefusal fault (λ r. Breaks text.bytes (break_of r)) → IsRefusal fault (λ r. r.names.items ≡ []) → Refuses text fault
  refused_text (Refused r) breaks nameless = in_text (break_of r) breaks refl refl nameless
  refused_text NoMemory breaks nameless = tt

  module _ (items : List Tree) (reads : Reads text.bytes (forest items)) where
    pub refused_forms : (fault : Fault Refusal) → IsRefusal fault (λ r. IsFirstBreak text.version items (break_of r)) → IsRefusal fault (λ r. r.names.items ≡ []) → Refuses text fault
    refused_forms (Refused r) breaks nameless =
        in_forms (forest items) (break_of r) reads (subst (λ (ts : List Tree). IsFirstBreak text.version ts (break_of r)) (sym (trees_forest items)) breaks) refl refl nameless
    refused_forms NoMemory breaks nameless = tt

    module _ (forms row : List Form) (are : AreForms text.version items forms) (same : row ≡ forms) where
      pub refused_order : (fault : Fault Refusal) → IsRefusal fault (λ r. IsOfTheCycle row r.rule r.span r.names.items) → Refuses text fault
      refused_order (Refused r) cycle =
          in_order (forest items) forms reads (forms_of_row text.version items forms are) (subst (λ (fs : List Form). IsOfTheCycle fs r.rule r.span r.names.items) same cycle)
      refused_order NoMemory cycle = tt

      pub ordered_here : (order : List ℕ) → ordered row ≡ Ok order → Ordered text forms order
      ordered_here order is =
          record { items = forest items; reads = reads; are_forms = forms_of_row text.version items forms are; order_is = subst (λ (fs : List Form). ordered fs ≡ Ok order) same is }

-- ---- what is known of the forms of a text

kind_fits : (forms : List Form) (n : ℕ) (form : Form) → FormsFit forms → slice_get forms n ≡ Some form → KindFits form.kind
kind_fits [] n form f h = absurd cc
kind_fits (g ∷ forms) zero form f h = let same : g ≡ form = cc in subst (λ (k : Form). KindFits k.kind) same f.0
kind_fits (g ∷ forms) (suc n) form f h = kind_fits forms n form f.1 h

weight_at : (forms : List Form) (n : ℕ) (form : Form) → slice_get forms n ≡ Some form → weight_of_kind form.kind ≤ weight_of_forms forms
weight_at [] n form h = absurd cc
weight_at (f ∷ forms) zero form h = let same : f ≡ form = cc in omega (arith, ap (λ (g : Form). weight_of_kind g.kind) same)
weight_at (f ∷ forms) (suc n) form h = omega (arith, weight_at forms n form h)

abbrev HasAtMost : ℕ → Option Tree → Type 0
HasAtMost n None = Unit {0}
HasAtMost n (Some e) = tree_size e ≤ n

kind_small : (kind : FormKind) (n : ℕ) → weight_of_kind kind ≤ n → HasAtMost n (expression_of kind)
kind_small (ConstantForm e) n h = h
kind_small (VariableForm t e) n h = h
kind_small (MapForm k v) n h = tt
kind_small (FungibleForm None) n h = tt
kind_small (FungibleForm (Some e)) n h = h
kind_small (NonFungibleForm t) n h = tt
kind_small (FunctionForm access params body) n h = omega (arith, h)
kind_small (ExpressionForm e) n h = h

both_low : (o : Option Tree) (m n : ℕ) → HasAtMost m o → NestsAtMost n o → m ≤ 2 ^ 21 → n < nesting → IsLow o
both_low None m n h k a b = tt
both_low (Some e) m n h k a b = (omega (arith, h, a), omega (arith, k, b))

pub known_forms : (text : Text) (items : List Tree) (forms : List Form) → Reads text.bytes (forest items) → AreForms text.version items forms → forest_size (forest items) ≤ 2 * length text.bytes → weight_of_forms forms ≤ forest_size (forest items) → FormsFit forms → ((n : ℕ) (form : Form) → slice_get forms n ≡ Some form → NestsAtMost (forest_depth (forest items)) (expression_of form.kind)) → AreKnown forms
known_forms text items forms reads are few weight fits deep = record {
  low = λ n form h. both_low (expression_of form.kind) (weight_of_forms forms) (forest_depth (forest items)) (kind_small form.kind (weight_of_forms forms) (weight_at forms n form h)) (deep n form h) (omega (arith, few, weight, reads.size)) (omega (arith, reads.depth));
  fits = λ n form h. kind_fits forms n form fits h;
  named = form_named text.version items forms are;
  new = names_apart text.version items forms are;
  once = form_once text.version items forms are;
}
