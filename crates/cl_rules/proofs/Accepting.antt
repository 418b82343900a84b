-- Accepted texts and first breaks.
use Rattle.std.proofs.Common.{◌≡◌, ℕ, zero, suc, List, [], ◌∷◌, length, map, slice_get, Contains, Option, Some, None, Result, Ok, Err, refl, sym, ap, ◌∙◌, subst, arith}
use Rattle.std.specs.List.{cons_option}
use Rattle.cl_c32.specs.declared.principal.Principal.{Principal}
use Rattle.cl_shapes.specs.Costs.{first_above}
use Rattle.cl_sexpr.specs.declared.sexpr.Span.{Span}
use Rattle.cl_sexpr.specs.declared.rule.Rule.{Rule}
use Rattle.cl_sexpr.specs.declared.rule.Break.{Break}
use Rattle.cl_sexpr.specs.Tree.{Forest}
use Rattle.cl_sexpr.specs.Text.{Reads, Breaks as BreaksText}
use Rattle.cl_forms.specs.declared.version.Version.{Version}
use Rattle.cl_forms.specs.Texts.{Text}
use Rattle.cl_forms.specs.Forms.{Form}
use Rattle.cl_forms.specs.FormBreaks.{AreForms, IsFirstBreak as IsFirstFormRule}
use Rattle.cl_forms.specs.Order.{ordered}
use Rattle.cl_forms.specs.Shapes.{trees_of}
use Rattle.cl_rules.specs.Bills.{cost_under}
use Rattle.cl_rules.specs.Context.{CostTable, Known}
use Rattle.cl_rules.specs.FormRules.{Defined, nothing_defined}
use Rattle.cl_rules.specs.FormTyping.{FormsTyped}
use Rattle.cl_rules.specs.Acceptance.{Ordered, TypedAs, forms_at, WritesWrongly, NoneWrites, most_cost, bound_of, Accepted, FirstUnordered, in_text, in_forms, in_order, FirstBreakBeforeBounds, unordered, in_typing, in_writing, FirstBreakOf, before_bounds, in_bounds, in_deployment}
use Rattle.cl_rules.proofs.FormWalk.{one_end, forms_never_both}

-- what the reader's laws say
pub record Reading : Type 0 where
  pub one : (bytes : List ℕ) (a b : Forest) → Reads bytes a → Reads bytes b → a ≡ b
  pub either : (bytes : List ℕ) (a : Forest) (b : Break) → Reads bytes a → BreaksText bytes b → ⊥

-- ---- lists

pub some_same : {A : Type 0} (a b : A) → Some a ≡ Some b → a ≡ b
some_same {A = A} a b e = ap held e
  where
    held : Option A → A
    held None = a
    held (Some x) = x

abbrev ok_or : {A B : Type 0} → A → Result A B → A
ok_or d (Ok a) = a
ok_or d (Err e) = d

ok_same : {A B : Type 0} (a b : A) {r : Result A B} → r ≡ Ok a → r ≡ Ok b → a ≡ b
ok_same a b e h = sym (ap (ok_or a) e) ∙ ap (ok_or a) h

-- what is there in a list of options
kept : {A : Type 0} → List (Option A) → List A
kept [] = []
kept (o ∷ os) = cons_option o (kept os)

kept_all : {A : Type 0} (xs : List A) → kept (map Some xs) ≡ xs
unfolding kept
kept_all [] = refl
kept_all (x ∷ xs) = ap (λ ys. x ∷ ys) (kept_all xs)

all_same : {A : Type 0} (xs ys : List A) → map Some xs ≡ map Some ys → xs ≡ ys
all_same xs ys e = sym (kept_all xs) ∙ ap kept e ∙ kept_all ys

pub none_some : {A : Type 0} (a : A) {o : Option A} → o ≡ None → o ≡ Some a → ⊥
none_some a e h = none_is (sym e ∙ h)
  where
    none_is : None ≡ Some a → ⊥
    none_is x = cc

pub ok_err : {A B : Type 0} (a : A) (b : B) {r : Result A B} → r ≡ Ok a → r ≡ Err b → ⊥
ok_err {A = A} {B = B} a b e h = ok_is (sym e ∙ h)
  where
    ok_is : Ok a ≡ Err b → ⊥
    ok_is x = cc

-- ---- forms at places

there_then : {A : Type 0} (xs : List A) (n : ℕ) (x : A) → slice_get xs n ≡ Some x → Contains xs x
there_then [] n x e = absurd (none_some x {o = slice_get [] n} refl e)
there_then (y ∷ ys) zero x e = (0, omega arith, some_same y x e)
there_then (y ∷ ys) (suc n) x e = let h = there_then ys n x e in (suc h.0, omega (arith, h.1), h.2)

step_in : (forms rest : List Form) (o : Option Form) (n : ℕ) (form : Form) → ((g : Form) → o ≡ Some g → Contains forms g) → ((m : ℕ) → slice_get rest m ≡ Some form → Contains forms form) → slice_get (cons_option o rest) n ≡ Some form → Contains forms form
step_in forms rest None n form h k e = k n e
step_in forms rest (Some g) zero form h k e = h form e
step_in forms rest (Some g) (suc n) form h k e = k n e

-- a form at a place of the order is one of the forms
pub form_in : (forms : List Form) (order : List ℕ) (n : ℕ) (form : Form) → slice_get (forms_at forms order) n ≡ Some form → Contains forms form
form_in forms [] n form e = absurd (none_some form {o = slice_get (forms_at forms []) n} refl e)
form_in forms (m ∷ ms) n form e = step_in forms (forms_at forms ms) (slice_get forms m) n form (there_then forms m) (λ i. form_in forms ms i form) e

-- ---- what a text has is one

module _ (reading : Reading) where
  pub items_same : {bytes : List ℕ} {a b : Forest} → Reads bytes a → Reads bytes b → a ≡ b
  items_same {bytes = bytes} {a = a} {b = b} x y = reading.one bytes a b x y

  pub forms_same : {bytes : List ℕ} {version : Version} {a b : Forest} {f g : List Form} → Reads bytes a → AreForms version (trees_of a) f → Reads bytes b → AreForms version (trees_of b) g → f ≡ g
  forms_same {version = version} {f = f} {g = g} x h y k = let again = subst (λ items. AreForms version (trees_of items) g) (items_same y x) k in all_same f g (sym h.forms_are ∙ again.forms_are)

  pub ordered_same : {text : Text} {f g : List Form} {o p : List ℕ} → Ordered text f o → Ordered text g p → (f ≡ g) × (o ≡ p)
  ordered_same {o = o} {p = p} x y = let e = forms_same x.reads x.are_forms y.reads y.are_forms in (e, ok_same o p x.order_is (ap ordered e ∙ y.order_is))

  -- a text with forms in an order has no break before
  pub never_unordered : {text : Text} {forms : List Form} {order : List ℕ} {rule : Rule} {span : Span} {names : List (List ℕ)} → Ordered text forms order → FirstUnordered text rule span names → ⊥
  never_unordered {text = text} o (in_text b x e f g) = reading.either text.bytes o.items b o.reads x
  never_unordered {text = text} o (in_forms items b reads x e f g) =
      let again = subst (λ i. IsFirstFormRule text.version (trees_of i) b) (items_same reads o.reads) x in
      o.are_forms.unbroken again.place b again.breaks
  never_unordered {order = order} o (in_order items forms reads are x) =
      ok_err order x.places o.order_is (ap ordered (forms_same o.reads o.are_forms reads are) ∙ x.met)

  module _ (deployed : List Known) (principal : Principal) (text : Text) where
    pub typed_along : {f g : List Form} {o p : List ℕ} {D : Defined} → f ≡ g → o ≡ p → FormsTyped (nothing_defined deployed principal text.version (length text.bytes)) (forms_at f o) D → FormsTyped (nothing_defined deployed principal text.version (length text.bytes)) (forms_at g p) D
    typed_along {f = f} {p = p} {D = D} e h x = subst (λ forms. FormsTyped (nothing_defined deployed principal text.version (length text.bytes)) (forms_at forms p) D) e (subst (λ order. FormsTyped (nothing_defined deployed principal text.version (length text.bytes)) (forms_at f order) D) h x)

    pub defined_same : {f g : List Form} {o p : List ℕ} {D E : Defined} → TypedAs deployed principal text f o D → TypedAs deployed principal text g p E → D ≡ E
    defined_same x y = let e = ordered_same x.is_ordered y.is_ordered in one_end (typed_along e.0 e.1 x.are_typed) y.are_typed

    pub one_defined : (table : CostTable) (a b : Accepted deployed principal table text) → a.defined ≡ b.defined
    one_defined table a b = defined_same a.typed b.typed

    -- typed, and none writes: then there is no break before the bounds
    pub typed_clean : {again : List Form} {places : List ℕ} {D : Defined} (rule : Rule) (span : Span) (names : List (List ℕ)) → TypedAs deployed principal text again places D → NoneWrites deployed principal again → FirstBreakBeforeBounds deployed principal text rule span names → ⊥
    typed_clean rule span names t none (unordered x) = never_unordered t.is_ordered x
    typed_clean {D = D} rule span names t none (in_typing forms order o x e) =
        let h = ordered_same t.is_ordered o in
        forms_never_both (nothing_defined deployed principal text.version (length text.bytes)) D (forms_at forms order) rule span (typed_along h.0 h.1 t.are_typed) x
    typed_clean rule span names t none (in_writing forms order defined u x e f) =
        let h = ordered_same t.is_ordered u.is_ordered in
        none x.form
        (subst (λ fs. Contains fs x.form) (sym h.0) (form_in forms order x.place x.form x.there))
        (subst (λ fs. WritesWrongly deployed principal fs x.form) (sym h.0) x.writes)

    pub accepted_clean : (table : CostTable) (rule : Rule) (span : Span) (names : List (List ℕ)) → Accepted deployed principal table text → FirstBreakOf deployed principal table text rule span names → ⊥
    accepted_clean table rule span names a (before_bounds x) = typed_clean rule span names a.typed a.none_writes x
    accepted_clean table rule span names a (in_bounds forms order defined dimension t q x e f) =
        let h = ordered_same a.typed.is_ordered t.is_ordered in
        none_some dimension
        (a.bounded.functions x.form x.bound (subst (λ fs. Contains fs x.form) (sym h.0) (form_in forms order x.place x.form x.there)) (ap (λ d. bound_of d x.form) (defined_same a.typed t) ∙ x.bound_is))
        x.above
    accepted_clean table rule span names a (in_deployment forms order defined dimension t q x e f g) =
        none_some dimension (ap (λ (d : Defined). first_above most_cost (cost_under table d.deploy)) (sym (defined_same a.typed t)) ∙ a.bounded.deployment) x.above
