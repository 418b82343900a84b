-- Where a look at the bounds of forms in their order stops.
use Rattle.std.proofs.Common.{◌≡◌, ◌⊎◌, inl, inr, ℕ, zero, suc, ◌≤◌, arith, Bool, true, false, List, [], ◌∷◌, ◌++◌, slice_get, Option, Some, None, refl, sym, ap, subst, ◌∙◌}
use Rattle.std.specs.Prelude.{unwrap_or, option_map, if◌then◌else◌}
use Rattle.cl_types.specs.Types.{PlainType}
use Rattle.cl_types.specs.declared.sized.Access.{Access}
use Rattle.cl_types.proofs.Lattice.{keys_equal}
use Rattle.cl_c32.specs.declared.principal.Principal.{Principal}
use Rattle.cl_shapes.specs.declared.cost.Dimension.{Dimension}
use Rattle.cl_shapes.specs.Costs.{first_above}
use Rattle.cl_sexpr.specs.declared.sexpr.Span.{Span}
use Rattle.cl_sexpr.specs.Tree.{Tree}
use Rattle.cl_forms.specs.declared.version.Version.{Version}
use Rattle.cl_forms.specs.Forms.{Form, FormKind, ConstantForm, VariableForm, MapForm, FungibleForm, NonFungibleForm, FunctionForm, ExpressionForm}
use Rattle.cl_rules.specs.Bills.{Bill, cost_under}
use Rattle.cl_rules.specs.Context.{CostTable, Signature, Known, Context, same, signature_in}
use Rattle.cl_rules.specs.Verdicts.{Found}
use Rattle.cl_rules.specs.FormRules.{Defined, nothing_defined, context_after}
use Rattle.cl_rules.specs.FormTyping.{FormsTyped, form_typed, no_more, one_more}
use Rattle.cl_rules.specs.Acceptance.{forms_at, most_cost, bound_at, bound_by, bound_of, nowhere, Bounded}
use Rattle.cl_rules.specs.PlainProgram.{or_later, above_at, bound_stop}
use Rattle.cl_rules.specs.Laws.{IsFirstAboveLimit}

-- ---- where functions come from

-- a form that is a function of this name
pub record IsFunctionNamed (x : List ℕ) (form : Form) : Type 0 where
  pub access : Access
  pub params : List (List ℕ × PlainType)
  pub body : Tree
  pub kind : form.kind ≡ FunctionForm access params body
  pub name : unwrap_or form.name [] ≡ x

last : (x : List ℕ) (fs : List Signature) (s f : Signature) → signature_in x (fs ++ s ∷ []) ≡ Some f → (signature_in x fs ≡ Some f) ⊎ (same s.name x ≡ true)
last x [] s f h = by (same s.name x) refl h
  where
    by : (b : Bool) → same s.name x ≡ b → (if b then Some s else None) ≡ Some f → (None ≡ Some f) ⊎ (same s.name x ≡ true)
    by true is h = inr is
    by false is h = inl h
last x (g ∷ fs) s f h = by (same g.name x) h (last x fs s f)
  where
    by : (b : Bool) → (if b then Some g else signature_in x (fs ++ s ∷ [])) ≡ Some f → (signature_in x (fs ++ s ∷ []) ≡ Some f → (signature_in x fs ≡ Some f) ⊎ (same s.name x ≡ true)) → ((if b then Some g else signature_in x fs) ≡ Some f) ⊎ (same s.name x ≡ true)
    by true h rest = inl h
    by false h rest = rest h

-- a function that a form adds, if it isn't there already
abbrev Added : Context → List ℕ → List ℕ → FormKind → Signature → Type 0
Added G name x kind f = (signature_in x G.functions ≡ Some f) ⊎ ((access : Access) × (params : List (List ℕ × PlainType)) × (body : Tree) × (kind ≡ FunctionForm access params body) × (same name x ≡ true))

added : (G : Context) (name x : List ℕ) (kind : FormKind) (fs : List Found) (f : Signature) → signature_in x (context_after G name kind fs).functions ≡ Some f → Added G name x kind f
added G name x (ConstantForm e) [] f h = inl h
added G name x (ConstantForm e) (g ∷ gs) f h = inl h
added G name x (VariableForm t e) fs f h = inl h
added G name x (MapForm k v) fs f h = inl h
added G name x (FungibleForm supply) fs f h = inl h
added G name x (NonFungibleForm t) fs f h = inl h
added G name x (ExpressionForm e) fs f h = inl h
added G name x (FunctionForm access params body) [] f h = inl h
added G name x (FunctionForm access params body) (g ∷ gs) f h =
    elim (last x G.functions _ f h) as (λ _. Added G name x (FunctionForm access params body) f) [
      | inl there ↦ inl there
      | inr here ↦ inr (access, params, body, refl, here)
    ]

-- a form of these that is a function of this name
abbrev pub AmongThem : List ℕ → List Form → Type 0
AmongThem x forms = (n : ℕ) × (form : Form) × (slice_get forms n ≡ Some form) × IsFunctionNamed x form

pub functions_from : (x : List ℕ) (f : Signature) (D E : Defined) (forms : List Form) → FormsTyped D forms E → signature_in x E.context.functions ≡ Some f → (signature_in x D.context.functions ≡ Some f) ⊎ AmongThem x forms
functions_from x f D E [] (no_more e) h = inl (subst (λ (C : Defined). signature_in x C.context.functions ≡ Some f) (sym e) h)
functions_from x f D E (form ∷ forms) (one_more {E = F} (form_typed fs follows sound is) later) h =
    elim (functions_from x f F E forms later h) as (λ _. (signature_in x D.context.functions ≡ Some f) ⊎ AmongThem x (form ∷ forms)) [
      | inl there ↦ by (added D.context (unwrap_or form.name []) x form.kind fs f (subst (λ (C : Defined). signature_in x C.context.functions ≡ Some f) (sym is) there))
      | inr among ↦ inr (suc among.0, among.1, among.2, among.3)
    ]
  where
    by : Added D.context (unwrap_or form.name []) x form.kind f → (signature_in x D.context.functions ≡ Some f) ⊎ AmongThem x (form ∷ forms)
    by (inl there) = inl there
    by (inr a) = inr (0, form, refl, record { access = a.0; params = a.1; body = a.2; kind = a.3; name = keys_equal (unwrap_or form.name []) x a.4 })

-- ---- one bound

above_none : (span : Span) (table : CostTable) (o : Option Bill) → above_at span table o ≡ None → (b : Bill) → o ≡ Some b → first_above most_cost (cost_under table b) ≡ None
above_none span table None h b is = absurd cc
above_none span table (Some c) h b is =
    let same_bound : c ≡ b = cc in
    subst (λ (a : Bill). first_above most_cost (cost_under table a) ≡ None) same_bound (by (first_above most_cost (cost_under table c)) h)
  where
    by : (o : Option Dimension) → option_map {U = Dimension × Span} (λ (d : Dimension). (d, span)) o ≡ None → o ≡ None
    by None h = refl
    by (Some d) h = absurd cc

above_some : (span s : Span) (table : CostTable) (o : Option Bill) (d : Dimension) → above_at span table o ≡ Some (d, s) → (b : Bill) × (o ≡ Some b) × (first_above most_cost (cost_under table b) ≡ Some d) × (span ≡ s)
above_some span s table None d h = absurd cc
above_some span s table (Some b) d h = (b, refl, (by (first_above most_cost (cost_under table b)) h).0, (by (first_above most_cost (cost_under table b)) h).1)
  where
    by : (o : Option Dimension) → option_map {U = Dimension × Span} (λ (d : Dimension). (d, span)) o ≡ Some (d, s) → (o ≡ Some d) × (span ≡ s)
    by None h = absurd cc
    by (Some e) h =
        let pair : (e, span) ≡ (d, s) = cc in
        (ap (λ (p : Dimension × Span). Some p.0) pair, ap (λ (p : Dimension × Span). p.1) pair)

-- ---- all bounds

module _ (table : CostTable) (D : Defined) where
  -- no bound of these is above the limit
  abbrev pub Within : List Form → Type 0
  Within forms = (n : ℕ) (form : Form) (b : Bill) → slice_get forms n ≡ Some form → bound_of D form ≡ Some b → first_above most_cost (cost_under table b) ≡ None

  -- the first of these that is
  pub record Stopped (forms : List Form) (d : Dimension) (s : Span) : Type 0 where
    pub place : ℕ
    pub form : Form
    pub bound : Bill
    pub there : slice_get forms place ≡ Some form
    pub bound_is : bound_of D form ≡ Some bound
    pub above : first_above most_cost (cost_under table bound) ≡ Some d
    pub span_is : form.span ≡ s
    pub least : (m : ℕ) (other : Form) (b : Bill) (e : Dimension) → slice_get forms m ≡ Some other → bound_of D other ≡ Some b → first_above most_cost (cost_under table b) ≡ Some e → place ≤ m

  within_more : (form : Form) (forms : List Form) → above_at form.span table (bound_of D form) ≡ None → Within forms → Within (form ∷ forms)
  within_more form forms none within zero other b there is =
      let same_form : form ≡ other = cc in
      above_none other.span table (bound_of D other) (subst (λ (f : Form). above_at f.span table (bound_of D f) ≡ None) same_form none) b is
  within_more form forms none within (suc n) other b there is = within n other b there is

  pub stop_none : (forms : List Form) → bound_stop table D forms ≡ None → Within forms × (first_above most_cost (cost_under table D.deploy) ≡ None)
  stop_none [] h = ((λ n form b there is. absurd cc), above_none nowhere table (Some D.deploy) h D.deploy refl)
  stop_none (form ∷ forms) h = by (above_at form.span table (bound_of D form)) refl h (stop_none forms)
    where
      by : (o : Option (Dimension × Span)) → above_at form.span table (bound_of D form) ≡ o → or_later o (bound_stop table D forms) ≡ None → (bound_stop table D forms ≡ None → Within forms × (first_above most_cost (cost_under table D.deploy) ≡ None)) → Within (form ∷ forms) × (first_above most_cost (cost_under table D.deploy) ≡ None)
      by None is h rest = (within_more form forms is (rest h).0, (rest h).1)
      by (Some p) is h rest = absurd cc

  -- where the look stops: at the first of the forms, or behind them all
  abbrev pub Stops : List Form → Dimension → Span → Type 0
  Stops forms d s = Stopped forms d s ⊎ (Within forms × (first_above most_cost (cost_under table D.deploy) ≡ Some d) × (s ≡ nowhere))

  some_none : (o : Option Dimension) (e : Dimension) → o ≡ None → o ≡ Some e → ⊥
  some_none o e none some = cc

  stopped_more : (form : Form) (forms : List Form) (d : Dimension) (s : Span) → above_at form.span table (bound_of D form) ≡ None → Stopped forms d s → Stopped (form ∷ forms) d s
  stopped_more form forms d s none stop = record {
    place = suc stop.place;
    form = stop.form;
    bound = stop.bound;
    there = stop.there;
    bound_is = stop.bound_is;
    above = stop.above;
    span_is = stop.span_is;
    least = least;
  }
    where
      least : (m : ℕ) (other : Form) (b : Bill) (e : Dimension) → slice_get (form ∷ forms) m ≡ Some other → bound_of D other ≡ Some b → first_above most_cost (cost_under table b) ≡ Some e → suc stop.place ≤ m
      least zero other b e there is above =
          let same_form : form ≡ other = cc in
          absurd (some_none (first_above most_cost (cost_under table b)) e (above_none other.span table (bound_of D other) (subst (λ (f : Form). above_at f.span table (bound_of D f) ≡ None) same_form none) b is) above)
      least (suc m) other b e there is above = omega (arith, stop.least m other b e there is above)

  pub stop_some : (forms : List Form) (d : Dimension) (s : Span) → bound_stop table D forms ≡ Some (d, s) → Stops forms d s
  stop_some [] d s h =
      let at = above_some nowhere s table (Some D.deploy) d h in
      let same_bound : D.deploy ≡ at.0 = cc in
      inr ((λ n form b there is. absurd cc), subst (λ (a : Bill). first_above most_cost (cost_under table a) ≡ Some d) (sym same_bound) at.2, sym at.3)
  stop_some (form ∷ forms) d s h = by (above_at form.span table (bound_of D form)) refl h (stop_some forms d s)
    where
      by : (o : Option (Dimension × Span)) → above_at form.span table (bound_of D form) ≡ o → or_later o (bound_stop table D forms) ≡ Some (d, s) → (bound_stop table D forms ≡ Some (d, s) → Stops forms d s) → Stops (form ∷ forms) d s
      by None is h rest =
          elim (rest h) as (λ _. Stops (form ∷ forms) d s) [
            | inl stop ↦ inl (stopped_more form forms d s is stop)
            | inr all ↦ inr (within_more form forms is all.0, all.1, all.2)
          ]
      by (Some p) is h rest =
          let at = above_some form.span s table (bound_of D form) d (is ∙ h) in
          inl (record { place = 0; form = form; bound = at.0; there = refl; bound_is = at.1; above = at.2; span_is = at.3; least = λ m other b e there same above. omega arith })

-- ---- the forms of a text, in its order and by themselves

signed : (o : Option Signature) (b : Bill) → bound_at o ≡ Some b → (f : Signature) × (o ≡ Some f) × (f.bound ≡ b)
signed None b h = absurd cc
signed (Some f) b h = (f, refl, cc)

-- a form with a bound is a function
function_of : (D : Defined) (kind : FormKind) (name : List ℕ) (b : Bill) → bound_by D kind name ≡ Some b → bound_at (signature_in name D.context.functions) ≡ Some b
function_of D (ConstantForm e) name b h = absurd cc
function_of D (VariableForm t e) name b h = absurd cc
function_of D (MapForm k v) name b h = absurd cc
function_of D (FungibleForm supply) name b h = absurd cc
function_of D (NonFungibleForm t) name b h = absurd cc
function_of D (FunctionForm access params body) name b h = h
function_of D (ExpressionForm e) name b h = absurd cc

module _ (deployed : List Known) (principal : Principal) (version : Version) (size : ℕ) (forms : List Form) (order : List ℕ) (D : Defined) (table : CostTable) (typed : FormsTyped (nothing_defined deployed principal version size) (forms_at forms order) D) where
  -- a function is among the forms in the order
  all_within : Within table D (forms_at forms order) → (form : Form) (b : Bill) → bound_of D form ≡ Some b → first_above most_cost (cost_under table b) ≡ None
  all_within within form b is =
      let name : List ℕ = unwrap_or form.name [] in
      let f = signed (signature_in name D.context.functions) b (function_of D form.kind name b is) in
      elim (functions_from name f.0 (nothing_defined deployed principal version size) D (forms_at forms order) typed f.1) as (λ _. first_above most_cost (cost_under table b) ≡ None) [
        | inl none ↦ absurd cc
        | inr among ↦ within among.0 among.1 b among.2 ((λ i. bound_by D (among.3.kind i) (among.3.name i)) ∙ ap bound_at f.1 ∙ ap (λ (c : Bill). Some c) f.2)
      ]

  pub no_stop_is_bounded : bound_stop table D (forms_at forms order) ≡ None → Bounded D forms table
  no_stop_is_bounded h =
      let none = stop_none table D (forms_at forms order) h in
      record { functions = λ form b there is. all_within none.0 form b is; deployment = none.1 }

  pub stop_is_first : (dimension : Dimension) (span : Span) → bound_stop table D (forms_at forms order) ≡ Some (dimension, span) → IsFirstAboveLimit D forms order table dimension span
  stop_is_first dimension span h =
      elim (stop_some table D (forms_at forms order) dimension span h) as (λ _. IsFirstAboveLimit D forms order table dimension span) [
        | inl stop ↦ inl (record { place = stop.place; form = stop.form; bound = stop.bound; there = stop.there; bound_is = stop.bound_is; above = stop.above; span_is = stop.span_is; least = stop.least })
        | inr rest ↦ inr (record { functions = λ form b there is. all_within rest.0 form b is; above = rest.1 }, rest.2)
      ]
