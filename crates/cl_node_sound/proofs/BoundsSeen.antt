-- The lines of an accepted contract have the bounds and types that its callers see.
use Rattle.std.proofs.Common.{◌≡◌, ◌⊎◌, inl, inr, ℕ, zero, suc, Bool, true, false, List, [], ◌∷◌, slice_get, Option, Some, None, refl, sym, ap, subst, ◌∙◌}
use Rattle.std.specs.Prelude.{if◌then◌else◌, unwrap_or, option_map, filter_map, Contains}
use Rattle.std.proofs.lemmas.List.Elements.{Contains-append_left, Contains-append_right, Contains-push}
use Rattle.std.specs.List.{cons_option}
use Rattle.cl_forms.specs.Texts.{Text}
use Rattle.cl_types.specs.Types.{PlainType}
use Rattle.cl_types.proofs.Lattice.{keys_equal, key_same}
use Rattle.cl_c32.specs.declared.principal.Principal.{Principal}
use Rattle.cl_shapes.specs.declared.cost.Cost5.{Cost5}
use Rattle.cl_shapes.specs.Costs.{first_above}
use Rattle.cl_forms.specs.Forms.{Form, FormKind, ConstantForm, VariableForm, MapForm, FungibleForm, NonFungibleForm, FunctionForm, ExpressionForm}
use Rattle.cl_meaning.specs.Limits.{Costs}
use Rattle.cl_rules.specs.Bills.{Bill, cost_under}
use Rattle.cl_rules.specs.Context.{Context, Known, Signature, same, signature_in}
use Rattle.cl_rules.specs.Verdicts.{Found}
use Rattle.cl_rules.specs.FormRules.{Defined, signature_of, context_after}
use Rattle.cl_rules.specs.FormTyping.{form_typed, FormsTyped, no_more, one_more}
use Rattle.cl_rules.specs.Acceptance.{Accepted, most_cost, bound_at, bound_by, bound_of, forms_at}
use Rattle.cl_contract_sound.proofs.Contexts.{signature_split}
use Rattle.cl_tx.specs.declared.outcome.Reach.TheVariants.{Bound}
use Rattle.cl_tx.specs.Step.{bound_line, return_by, return_of}
use Rattle.cl_node_sound.specs.Told.{FunctionLine, line_named}

-- ---- forms that are functions

abbrev pub IsFunctionKind : FormKind → Type 0
IsFunctionKind (FunctionForm access params body) = Unit {0}
IsFunctionKind kind = ⊥

abbrev pub IsFunction : List ℕ → Form → Type 0
IsFunction x form = IsFunctionKind form.kind × (unwrap_or form.name [] ≡ x)

-- one of the forms is a function of this name
abbrev pub IsAmong : List ℕ → List Form → Type 0
IsAmong x [] = ⊥
IsAmong x (form ∷ forms) = IsFunction x form ⊎ IsAmong x forms

among_got : (x : List ℕ) (forms : List Form) (n : ℕ) (form : Form) → slice_get forms n ≡ Some form → IsFunction x form → IsAmong x forms
among_got x [] n form e h = absurd cc
among_got x (f ∷ fs) zero form e h = inl (subst (IsFunction x) (sym (same_form f form e)) h)
  where
    same_form : (f g : Form) → Some f ≡ Some g → f ≡ g
    same_form f g e = cc
among_got x (f ∷ fs) (suc n) form e h = inr (among_got x fs n form e h)

-- what is among forms in an order is among the forms
among_at : (x : List ℕ) (forms : List Form) (order : List ℕ) → IsAmong x (forms_at forms order) → IsAmong x forms
among_at x forms [] h = absurd h
among_at x forms (n ∷ order) h = by (slice_get forms n) refl (among_at x forms order) h
  where
    by : (o : Option Form) → slice_get forms n ≡ o → (IsAmong x (forms_at forms order) → IsAmong x forms) → IsAmong x (cons_option o (forms_at forms order)) → IsAmong x forms
    by None e more k = more k
    by (Some f) e more (inl k) = among_got x forms n f e k
    by (Some f) e more (inr k) = more k

-- ---- what forms define

added : (G : Context) (name : List ℕ) (kind : FormKind) (fs : List Found) (x : List ℕ) (g : Signature) → signature_in x (context_after G name kind fs).functions ≡ Some g → (signature_in x G.functions ≡ Some g) ⊎ (IsFunctionKind kind × (name ≡ x))
added G name (ConstantForm e) [] x g h = inl h
added G name (ConstantForm e) (f ∷ fs) x g h = inl h
added G name (VariableForm t e) fs x g h = inl h
added G name (MapForm k v) fs x g h = inl h
added G name (FungibleForm supply) fs x g h = inl h
added G name (NonFungibleForm t) fs x g h = inl h
added G name (FunctionForm access params body) [] x g h = inl h
added G name (FunctionForm access params body) (f ∷ fs) x g h = by (signature_split x G.functions (signature_of name access params f) g h)
  where
    by : (signature_in x G.functions ≡ Some g) ⊎ ((name ≡ x) × (signature_of name access params f ≡ g)) → (signature_in x G.functions ≡ Some g) ⊎ (Unit {0} × (name ≡ x))
    by (inl k) = inl k
    by (inr k) = inr (tt, k.0)
added G name (ExpressionForm e) [] x g h = inl h
added G name (ExpressionForm e) (f ∷ fs) x g h = inl h

-- a function that is there after typed forms was there before, or is one of them
among_typed : (D E : Defined) (forms : List Form) → FormsTyped D forms E → (x : List ℕ) (g : Signature) → signature_in x E.context.functions ≡ Some g → (signature_in x D.context.functions ≡ Some g) ⊎ IsAmong x forms
among_typed D E [] (no_more e) x g h = inl (subst (λ (F : Defined). signature_in x F.context.functions ≡ Some g) (sym e) h)
among_typed D E (form ∷ forms) (one_more {E = F} (form_typed fs follows sound is) more) x g h = by (among_typed F E forms more x g h)
  where
    first : (signature_in x D.context.functions ≡ Some g) ⊎ IsFunction x form → (signature_in x D.context.functions ≡ Some g) ⊎ IsAmong x (form ∷ forms)
    first (inl k) = inl k
    first (inr k) = inr (inl k)

    by : (signature_in x F.context.functions ≡ Some g) ⊎ IsAmong x forms → (signature_in x D.context.functions ≡ Some g) ⊎ IsAmong x (form ∷ forms)
    by (inl k) = first (added D.context (unwrap_or form.name []) form.kind fs x g (subst (λ (F : Defined). signature_in x F.context.functions ≡ Some g) (sym is) k))
    by (inr k) = inr (inr k)

-- ---- lines

module _ (costs : Costs) (E : Defined) where
  -- the lines of some forms by their bounds and their types
  abbrev line_of_lists : List ℕ → List Form → Option FunctionLine
  line_of_lists x forms = line_named x (filter_map (bound_line costs E) forms) (filter_map (return_of E) forms)

  module _ (x : List ℕ) (g : Signature) (s : signature_in x E.context.functions ≡ Some g) where
    -- the line is the function's
    abbrev IsRight : Option FunctionLine → Type 0
    IsRight o = o ≡ Some (record { reach = Bound (cost_under costs g.bound); returns = g.returns })

    -- the line of a form comes first, where it is a function's
    first : (kind : FormKind) (name : List ℕ) (bounds : List (List ℕ × Cost5)) (types : List PlainType) → (IsFunctionKind kind × (name ≡ x)) ⊎ IsRight (line_named x bounds types) →
        IsRight (line_named x (cons_option (option_map {U = List ℕ × Cost5} (λ (bound : Bill). (name, cost_under costs bound)) (bound_by E kind name)) bounds) (cons_option (return_by E kind name) types))
    first (FunctionForm access params body) name bounds types h = by (signature_in name E.context.functions) refl h
      where
        one : (f : Signature) → Some f ≡ Some g → f ≡ g
        one f e = cc

        none : None ≡ Some g → ⊥
        none e = cc

        differ : false ≡ true → ⊥
        differ e = cc

        at : (f : Signature) → signature_in name E.context.functions ≡ Some f → (t : Bool) → same name x ≡ t → (Unit {0} × (name ≡ x)) ⊎ IsRight (line_named x bounds types) →
            IsRight (if t then Some (record { reach = Bound (cost_under costs f.bound); returns = f.returns }) else line_named x bounds types)
        at f e true j h =
            ap (λ (f : Signature). Some (record { reach = Bound (cost_under costs f.bound); returns = f.returns })) (one f (sym e ∙ ap (λ y. signature_in y E.context.functions) (keys_equal name x j) ∙ s))
        at f e false j (inl h) = absurd (differ (sym j ∙ ap (λ y. same y x) h.1 ∙ key_same x))
        at f e false j (inr h) = h

        by : (o : Option Signature) → signature_in name E.context.functions ≡ o → (Unit {0} × (name ≡ x)) ⊎ IsRight (line_named x bounds types) →
            IsRight (line_named x (cons_option (option_map {U = List ℕ × Cost5} (λ (bound : Bill). (name, cost_under costs bound)) (bound_at o)) bounds) (cons_option (option_map (λ (f : Signature). f.returns) o) types))
        by None e (inl h) = absurd (none (sym e ∙ ap (λ y. signature_in y E.context.functions) h.1 ∙ s))
        by None e (inr h) = h
        by (Some f) e h = at f e (same name x) refl h
    first (ConstantForm e) name bounds types (inl h) = absurd h.0
    first (ConstantForm e) name bounds types (inr h) = h
    first (VariableForm t e) name bounds types (inl h) = absurd h.0
    first (VariableForm t e) name bounds types (inr h) = h
    first (MapForm k v) name bounds types (inl h) = absurd h.0
    first (MapForm k v) name bounds types (inr h) = h
    first (FungibleForm supply) name bounds types (inl h) = absurd h.0
    first (FungibleForm supply) name bounds types (inr h) = h
    first (NonFungibleForm t) name bounds types (inl h) = absurd h.0
    first (NonFungibleForm t) name bounds types (inr h) = h
    first (ExpressionForm e) name bounds types (inl h) = absurd h.0
    first (ExpressionForm e) name bounds types (inr h) = h

    -- the line of a function that is among the forms
    lines_tell : (forms : List Form) → IsAmong x forms → IsRight (line_of_lists x forms)
    lines_tell [] h = absurd h
    lines_tell (form ∷ forms) (inl h) = first form.kind (unwrap_or form.name []) (filter_map (bound_line costs E) forms) (filter_map (return_of E) forms) (inl h)
    lines_tell (form ∷ forms) (inr h) = first form.kind (unwrap_or form.name []) (filter_map (bound_line costs E) forms) (filter_map (return_of E) forms) (inr (lines_tell forms h))

  bound_there : (kind : FormKind) (name : List ℕ) (g : Signature) → IsFunctionKind kind → signature_in name E.context.functions ≡ Some g → bound_by E kind name ≡ Some g.bound
  bound_there (FunctionForm access params body) name g is h = ap bound_at h
  bound_there (ConstantForm e) name g is h = absurd is
  bound_there (VariableForm t e) name g is h = absurd is
  bound_there (MapForm k v) name g is h = absurd is
  bound_there (FungibleForm supply) name g is h = absurd is
  bound_there (NonFungibleForm t) name g is h = absurd is
  bound_there (ExpressionForm e) name g is h = absurd is

  -- where the bounds of all forms are within the limit, so is that of a function among them
  bounded_among : (x : List ℕ) (g : Signature) → signature_in x E.context.functions ≡ Some g → (forms : List Form) → IsAmong x forms → ((form : Form) (bound : Bill) → Contains forms form → bound_of E form ≡ Some bound → first_above most_cost (cost_under costs bound) ≡ None) → first_above most_cost (cost_under costs g.bound) ≡ None
  bounded_among x g s [] h all = absurd h
  bounded_among x g s (form ∷ forms) (inl h) all =
      all form g.bound (Contains-append_left (form ∷ []) forms form (Contains-push [] form)) (bound_there form.kind (unwrap_or form.name []) g h.0 (ap (λ y. signature_in y E.context.functions) h.1 ∙ s))
  bounded_among x g s (form ∷ forms) (inr h) all = bounded_among x g s forms h (λ f b there. all f b (Contains-append_right (form ∷ []) forms f there))

-- each function that an accepted text defines is one of its forms
pub accepted_among : (costs : Costs) (ks : List Known) (p : Principal) (source : Text) (a : Accepted ks p costs source) (x : List ℕ) (g : Signature) → signature_in x a.defined.context.functions ≡ Some g → IsAmong x a.forms
accepted_among costs ks p source a x g h = by (among_typed _ a.defined (forms_at a.forms a.order) a.typed.are_typed x g h)
  where
    by : (None ≡ Some g) ⊎ IsAmong x (forms_at a.forms a.order) → IsAmong x a.forms
    by (inl k) = absurd cc
    by (inr k) = among_at x a.forms a.order k

module _ (costs : Costs) (ks : List Known) (p : Principal) (source : Text) (a : Accepted ks p costs source) (x : List ℕ) (g : Signature) (s : signature_in x a.defined.context.functions ≡ Some g) where
  -- the lines of an accepted text have each function that it defines, with its bound and its type
  pub accepted_lines : line_of_lists costs a.defined x a.forms ≡ Some (record { reach = Bound (cost_under costs g.bound); returns = g.returns })
  accepted_lines = lines_tell costs a.defined x g s a.forms (accepted_among costs ks p source a x g s)

  -- and this bound is within the limit
  pub accepted_bounded : first_above most_cost (cost_under costs g.bound) ≡ None
  accepted_bounded = bounded_among costs a.defined x g s a.forms (accepted_among costs ks p source a x g s) a.bounded.functions
