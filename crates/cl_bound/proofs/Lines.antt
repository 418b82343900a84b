-- The lines of the functions, in the order of the text.
use Rattle.std.proofs.Common.{◌≡◌, ℕ, zero, suc, ◌+◌, ◌<◌, ◌≤◌, List, [], ◌∷◌, ◌++◌, length, map, drop, get_or, filter_map, Contains, Option, Some, None, arith, append_assoc, append-nil, refl, ap, sym, subst, ◌∙◌}
use Rattle.std.specs.Prelude.{option_map}
use Rattle.std.specs.List.{cons_option}
use Rattle.std.proofs.lemmas.List.{length-map, drop_all}
use Rattle.std.proofs.lemmas.List.Elements.{Contains-get_or}
use Rattle.cl_values.proofs.Lists.{rest_of}
use Rattle.cl_shapes.specs.declared.cost.Cost5.{Cost5}
use Rattle.cl_shapes.specs.Costs.{first_above}
use Rattle.cl_forms.specs.Forms.{Form}
use Rattle.cl_code.specs.Definitions.{form_defined}
use Rattle.cl_code.specs.declared.definition.Definition.{Definition}
use Rattle.cl_rules.specs.Bills.{Bill, cost_under}
use Rattle.cl_rules.specs.Context.{CostTable, Signature}
use Rattle.cl_rules.specs.FormRules.{Defined}
use Rattle.cl_rules.specs.Acceptance.{Bounded, most_cost, bound_at}
use Rattle.cl_contracts.specs.declared.checked.Checked.{Checked}
use Rattle.cl_contracts.specs.Seen.{forms_of}
use Rattle.cl_bound.specs.declared.prices.Application.{Application}
use Rattle.cl_sums.specs.Sums.{told}
use Rattle.cl_bound.specs.Seen.{IsWithin, application_of}

-- ---- one line

-- the line of a function, by what is kept of it
pub line_some : (table : CostTable) (name : List ℕ) (a : Application) (f : Option Signature) (cost : Cost5) → Some a ≡ option_map (application_of table) f → ((b : Bill) → bound_at f ≡ Some b → first_above most_cost (cost_under table b) ≡ None) →
    ((b : Cost5) → a.bound ≡ told b → first_above most_cost b ≡ None → cost ≡ b) → Some (name, cost) ≡ option_map {U = List ℕ × Cost5} (λ (bound : Bill). (name, cost_under table bound)) (bound_at f)
line_some table name a None cost h within is = absurd cc
line_some table name a (Some f) cost h within is =
    let same : a ≡ application_of table f = cc in
    ap (λ (b : Cost5). Some (name, b)) (is (cost_under table f.bound) (ap (λ (b : Application). b.bound) same) (within f.bound refl))

pub line_none : (table : CostTable) (name : List ℕ) (f : Option Signature) → None ≡ option_map (application_of table) f → None ≡ option_map {U = List ℕ × Cost5} (λ (bound : Bill). (name, cost_under table bound)) (bound_at f)
line_none table name None h = refl
line_none table name (Some f) h = absurd cc

-- ---- one definition after another

at_map : {A B : Type 0} (f : A → B) (xs : List A) (i : ℕ) (x : A) → get_or (map f xs) i (f x) ≡ f (get_or xs i x)
at_map f [] i x = refl
at_map f (y ∷ xs) zero x = refl
at_map f (y ∷ xs) (suc i) x = at_map f xs i x

-- a definition's bound is within the limit where all are
pub one_within : (checked : Checked) (table : CostTable) (D : Defined) (i : ℕ) (d : Definition) → i < length checked.definitions.items → get_or checked.definitions.items i d ≡ d → Bounded D (forms_of checked) table → IsWithin D (form_defined d) table
one_within checked table D i d lt at bounded b is =
    let there : Contains (forms_of checked) (form_defined d) =
    subst (Contains (forms_of checked)) (at_map form_defined checked.definitions.items i d ∙ ap form_defined at) (Contains-get_or (forms_of checked) i (form_defined d) (omega (arith, lt, length-map checked.definitions.items form_defined))) in
    bounded.functions (form_defined d) b there is

-- the lines of the forms that have one
abbrev pub lines_of : {A : Type 0} → (Form → Option A) → List Definition → List A
lines_of line ds = filter_map line (map form_defined ds)

module _ {A : Type 0} (line : Form → Option A) (all : List Definition) (whole : List A) where
  abbrev left : ℕ → List A
  left i = lines_of line (drop i all)

  pub line_next : (i : ℕ) (d : Definition) (o : Option A) (lines : List A) → i < length all → get_or all i d ≡ d → o ≡ line (form_defined d) → lines ++ left i ≡ whole → lines ++ cons_option o (left (i + 1)) ≡ whole
  line_next i d o lines lt at is so_far =
      ap (λ (p : Option A). lines ++ cons_option p (left (i + 1))) is
      ∙ ap (λ (ds : List Definition). lines ++ lines_of line ds) (sym (rest_of all i d lt at)) ∙ so_far

  pub line_more : (i : ℕ) (l : A) (lines more : List A) → more ≡ lines ++ l ∷ [] → lines ++ (l ∷ left (i + 1)) ≡ whole → more ++ left (i + 1) ≡ whole
  line_more i l lines more is so_far = ap (λ (ls : List A). ls ++ left (i + 1)) is ∙ append_assoc lines (l ∷ []) (left (i + 1)) ∙ so_far

  pub line_past : (i : ℕ) (lines more : List A) → more ≡ lines → lines ++ left (i + 1) ≡ whole → more ++ left (i + 1) ≡ whole
  line_past i lines more is so_far = ap (λ (ls : List A). ls ++ left (i + 1)) is ∙ so_far

  -- behind the last definition there is no more
  pub line_end : (i : ℕ) (lines : List A) → length all ≤ i → lines ++ left i ≡ whole → lines ≡ whole
  line_end i lines far so_far = sym (append-nil lines) ∙ ap (λ (ds : List Definition). lines ++ lines_of line ds) (sym (drop_all i all far)) ∙ so_far
