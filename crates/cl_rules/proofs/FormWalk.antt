-- Typing of forms and the walk over them.
use Rattle.std.proofs.Common.{◌≡◌, ◌⊎◌, inl, inr, ℕ, suc, List, [], ◌∷◌, Some, None, refl, sym, ap, ◌∙◌, subst, arith}
use Rattle.cl_sexpr.specs.declared.sexpr.Span.{Span}
use Rattle.cl_sexpr.specs.declared.rule.Rule.{Rule}
use Rattle.cl_sexpr.specs.Rules.{phase_of}
use Rattle.cl_sexpr.specs.Tree.{span_of}
use Rattle.cl_forms.specs.Forms.{Form, FormKind, ConstantForm, VariableForm, MapForm, FungibleForm, NonFungibleForm, FunctionForm, ExpressionForm, expression_of}
use Rattle.cl_rules.specs.Faults.{form_rules}
use Rattle.cl_rules.specs.Verdicts.{Found}
use Rattle.cl_rules.specs.Typing.{Follows, Among, Before}
use Rattle.cl_forms.specs.Placed.{IsPlacedIf, AreFormsPlaced}
use Rattle.cl_rules.specs.Walks.{FormStops, in_plan, at_form, FormsStop, at_first, later}
use Rattle.cl_rules.specs.FormRules.{Defined, form_plan, form_faults, defined_after}
use Rattle.cl_rules.specs.FormTyping.{FormTyped, form_typed, FormsTyped, no_more, one_more, Reached, here, behind, FormBreaks, in_expression, by_itself, Earlier, FirstFormBreak}
use Rattle.cl_rules.proofs.Rising.{Starts, among_phase, rising_least, form_rising}
use Rattle.cl_rules.proofs.Placing.{PlanPlaced}
use Rattle.cl_rules.proofs.Walk.{among_none, one_row, clean_in, stop_in_breaks, stop_in_least, before_both, breaks_phase, walk_plan, walk, WalksOn}

-- ---- one form

-- with one form before, one thing is defined
pub one_form : {D E F : Defined} {form : Form} → FormTyped D form E → FormTyped D form F → E ≡ F
one_form {D = D} {form = form} (form_typed fs h b e) (form_typed gs k c f) = sym e ∙ ap (defined_after D form) (one_row D.context h k) ∙ f

-- a typed form breaks no rule
pub form_clean : {D E : Defined} {form : Form} {r : Rule} {s : Span} → FormTyped D form E → FormBreaks D form r s → ⊥
form_clean {D = D} (form_typed fs h b e) (in_expression B d l k i) = clean_in D.context h l k
form_clean {D = D} {form = form} {r = r} (form_typed fs h b e) (by_itself gs k a i) =
    among_none r b (subst (λ xs. Among r (form_rules (form_faults form.kind xs))) (one_row D.context k h) a)

-- what a form breaks is a rule of expressions
pub form_phase : {D : Defined} {form : Form} {r : Rule} {s : Span} → FormBreaks D form r s → phase_of r ≡ 3
form_phase {D = D} (in_expression B d l k i) = breaks_phase D.context k
form_phase {form = form} {r = r} (by_itself fs k a i) = among_phase 0 r (form_rules (form_faults form.kind fs)) (form_rising (form_faults form.kind fs)) a

-- where a walk stops in a form, the form breaks the rule
pub form_stop_breaks : {D : Defined} {form : Form} {r : Rule} {s : Span} → FormStops D form r s → FormBreaks D form r s
form_stop_breaks {D = D} (in_plan h) = let x = stop_in_breaks D.context h in in_expression x.0 x.1 x.2 x.3 x.4
form_stop_breaks {r = r} (at_form fs rs h b i) = by_itself fs h (subst (Among r) (sym b) (inl refl)) i

-- the expression of a form stands in front of a place
form_placed : (kind : FormKind) → IsPlacedIf (expression_of kind) → (high : ℕ) × PlanPlaced 0 high (form_plan kind)
form_placed (ConstantForm e) p = (suc (span_of e).end, (omega arith, omega arith, p, tt))
form_placed (VariableForm t e) p = (suc (span_of e).end, (omega arith, omega arith, p, tt))
form_placed (MapForm k v) p = (0, tt)
form_placed (FungibleForm None) p = (0, tt)
form_placed (FungibleForm (Some e)) p = (suc (span_of e).end, (omega arith, omega arith, p, tt))
form_placed (NonFungibleForm t) p = (0, tt)
form_placed (FunctionForm access params body) p = (suc (span_of body).end, (omega arith, omega arith, p, tt))
form_placed (ExpressionForm e) p = (suc (span_of e).end, (omega arith, omega arith, p, tt))

form_stop_least : {D : Defined} {form : Form} {r q : Rule} {s u : Span} → IsPlacedIf (expression_of form.kind) → FormStops D form r s → FormBreaks D form q u → Before r s q u
form_stop_least {D = D} {form = form} {r = r} {q = q} {s = s} p (in_plan h) (in_expression B d l k i) =
    let x = form_placed form.kind p in subst (Before r s q) i (stop_in_least D.context 0 x.0 x.1 h l k)
form_stop_least {D = D} p (in_plan h) (by_itself fs k a i) = let x = stop_in_breaks D.context h in absurd (clean_in D.context k x.2 x.3)
form_stop_least {D = D} p (at_form fs rs h b i) (in_expression B d l k j) = absurd (clean_in D.context h l k)
form_stop_least {D = D} {form = form} {r = r} {q = q} p (at_form fs rs h b i) (by_itself gs k a j) =
    inr (sym i ∙ j, rising_least 0 r q rs (subst (Starts 0) b (form_rising (form_faults form.kind fs))) (subst (Among q) b (subst (λ xs. Among q (form_rules (form_faults form.kind xs))) (one_row D.context k h) a)))

-- ---- forms in a row

-- what is reached among typed forms breaks no rule
pub forms_clean : {D E C : Defined} {forms : List Form} {other : Form} {n : ℕ} {r : Rule} {s : Span} → FormsTyped D forms E → Reached D forms n C other → FormBreaks C other r s → ⊥
forms_clean (no_more e) l k = elim l [ ]
forms_clean (one_more h g) (here e) k = form_clean h k
forms_clean {C = C} {other = other} (one_more {forms = forms} h g) (behind {before = before} e x l) k =
    forms_clean g (subst (λ E. Reached E forms before C other) (one_form x h) l) k

pub one_end : {D E F : Defined} {forms : List Form} → FormsTyped D forms E → FormsTyped D forms F → E ≡ F
one_end (no_more e) (no_more f) = sym e ∙ f
one_end {F = F} (one_more {forms = forms} h g) (one_more x y) = one_end g (subst (λ E. FormsTyped E forms F) (one_form x h) y)

forms_stop_breaks : {D : Defined} {forms : List Form} {r : Rule} {s : Span} → FormsStop D forms r s → (n : ℕ) × (C : Defined) × (form : Form) × Reached D forms n C form × FormBreaks C form r s
forms_stop_breaks (at_first {D = D} {form = form} h) = (0, D, form, here refl, form_stop_breaks h)
forms_stop_breaks (later h g) = let x = forms_stop_breaks g in (suc x.0, x.1, x.2, behind refl h x.3, x.4)

further : (n m : ℕ) (r q : Rule) (s u : Span) → Earlier n r s m q u → Earlier (suc n) r s (suc m) q u
further n m r q s u (inl h) = inl (omega (arith, h))
further n m r q s u (inr h) = inr (ap suc h.0, h.1)

forms_stop_least : {D C : Defined} {forms : List Form} {other : Form} {m : ℕ} {r q : Rule} {s u : Span} → AreFormsPlaced forms → (h : FormsStop D forms r s) → Reached D forms m C other → FormBreaks C other q u → Earlier ((forms_stop_breaks h).0) r s m q u
unfolding forms_stop_breaks
forms_stop_least p (at_first h) (here e) k = inr (sym e, form_stop_least p.0 h k)
forms_stop_least p (at_first h) (behind e x l) k = inl (omega (arith, e))
forms_stop_least p (later h g) (here e) k = absurd (form_clean h k)
forms_stop_least {C = C} {other = other} {r = r} {q = q} {s = s} {u = u} p (later {forms = forms} h g) (behind {before = before} e x l) k =
    subst (λ m. Earlier (suc (forms_stop_breaks g).0) r s m q u) (sym e) (further (forms_stop_breaks g).0 before r q s u (forms_stop_least p.1 g (subst (λ E. Reached E forms before C other) (one_form x h) l) k))

-- where a walk over the forms stops is their first break
pub forms_walk_is_first : (D : Defined) (forms : List Form) (r : Rule) (s : Span) → AreFormsPlaced forms → FormsStop D forms r s → FirstFormBreak D forms r s
forms_walk_is_first D forms r s p h = let x = forms_stop_breaks h in record {
  place = x.0;
  before = x.1;
  form = x.2;
  reached = x.3;
  breaks = x.4;
  least = λ m C other q u l k. forms_stop_least p h l k;
}

pub forms_never_both : (D E : Defined) (forms : List Form) (r : Rule) (s : Span) → FormsTyped D forms E → FirstFormBreak D forms r s → ⊥
forms_never_both D E forms r s h k = forms_clean h k.reached k.breaks

earlier_both : (n m : ℕ) (r q : Rule) (s u : Span) → phase_of r ≡ 3 → phase_of q ≡ 3 → Earlier n r s m q u → Earlier m q u n r s → (r ≡ q) × (s ≡ u)
earlier_both n m r q s u p h (inl x) (inl y) = absurd (omega (arith, x, y))
earlier_both n m r q s u p h (inl x) (inr y) = absurd (omega (arith, x, y.0))
earlier_both n m r q s u p h (inr x) (inl y) = absurd (omega (arith, y, x.0))
earlier_both n m r q s u p h (inr x) (inr y) = before_both r q s u p h x.1 y.1

pub one_first_form : (D : Defined) (forms : List Form) (r q : Rule) (s u : Span) → FirstFormBreak D forms r s → FirstFormBreak D forms q u → (r ≡ q) × (s ≡ u)
one_first_form D forms r q s u h k =
    earlier_both h.place k.place r q s u (form_phase h.breaks) (form_phase k.breaks)
    (h.least k.place k.before k.form q u k.reached k.breaks) (k.least h.place h.before h.form r s h.reached h.breaks)

-- ---- each row of forms is typed, or has a first break

abbrev FormWalks : Defined → Form → Type 0
FormWalks D form = ((E : Defined) × FormTyped D form E) ⊎ ((r : Rule) × (s : Span) × FormStops D form r s)

abbrev FormsWalk : Defined → List Form → Type 0
FormsWalk D forms = ((E : Defined) × FormsTyped D forms E) ⊎ ((r : Rule) × (s : Span) × FormsStop D forms r s)

form_ruled : (D : Defined) (form : Form) (fs : List Found) → Follows D.context (form_plan form.kind) fs → (rs : List Rule) → form_rules (form_faults form.kind fs) ≡ rs → FormWalks D form
form_ruled D form fs h [] b = inl (defined_after D form fs, form_typed fs h b refl)
form_ruled D form fs h (r ∷ rs) b = inr (r, form.span, at_form fs rs h b refl)

form_walked : (D : Defined) (form : Form) → WalksOn D.context (form_plan form.kind) → FormWalks D form
form_walked D form (inl x) = form_ruled D form x.0 x.1 (form_rules (form_faults form.kind x.0)) refl
form_walked D form (inr x) = inr (x.0, x.1, in_plan x.2)

form_walk : (D : Defined) (form : Form) → IsPlacedIf (expression_of form.kind) → FormWalks D form
form_walk D form p = let x = form_placed form.kind p in
    form_walked D form (walk_plan D.context x.0 (walk D.context x.0) 0 x.0 (form_plan form.kind) x.1 (omega arith))

next_walk : (D E : Defined) (form : Form) (forms : List Form) → FormTyped D form E → FormsWalk E forms → FormsWalk D (form ∷ forms)
next_walk D E form forms h (inl x) = inl (x.0, one_more h x.1)
next_walk D E form forms h (inr x) = inr (x.0, x.1, later h x.2)

first_walk : (D : Defined) (form : Form) (forms : List Form) → FormWalks D form → ((E : Defined) → FormsWalk E forms) → FormsWalk D (form ∷ forms)
first_walk D form forms (inl x) k = next_walk D x.0 form forms x.1 (k x.0)
first_walk D form forms (inr x) k = inr (x.0, x.1, at_first x.2)

forms_walk : (forms : List Form) → AreFormsPlaced forms → (D : Defined) → FormsWalk D forms
forms_walk [] p = λ D. inl (D, no_more refl)
forms_walk (form ∷ forms) p = λ D. first_walk D form forms (form_walk D form p.0) (forms_walk forms p.1)

first_of : (D : Defined) (forms : List Form) → AreFormsPlaced forms → FormsWalk D forms → ((E : Defined) × FormsTyped D forms E) ⊎ ((r : Rule) × (s : Span) × FirstFormBreak D forms r s)
first_of D forms p (inl x) = inl x
first_of D forms p (inr x) = inr (x.0, x.1, forms_walk_is_first D forms x.0 x.1 p x.2)

pub forms_decided : (D : Defined) (forms : List Form) → AreFormsPlaced forms → ((E : Defined) × FormsTyped D forms E) ⊎ ((r : Rule) × (s : Span) × FirstFormBreak D forms r s)
forms_decided D forms p = first_of D forms p (forms_walk forms p D)
