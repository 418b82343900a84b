-- The first read-only function that writes, or none.
use Rattle.std.proofs.Common.{◌≡◌, ◌⊎◌, inl, inr, ℕ, zero, suc, ◌<◌, ◌≤◌, Bool, true, false, List, [], ◌∷◌, length, slice_get, Option, Some, None, refl, sym, ap, subst, ◌∙◌, arith, eqb-true}
use Rattle.std.specs.Prelude.{Contains, nat_eq, ◌||◌}
use Rattle.std.specs.List.{cons_option}
use Rattle.cl_types.specs.Types.{PlainType}
use Rattle.cl_types.specs.declared.sized.Access.TheVariants.{ReadOnly}
use Rattle.cl_c32.specs.declared.principal.Principal.{Principal}
use Rattle.cl_sexpr.specs.declared.sexpr.Span.{Span}
use Rattle.cl_sexpr.specs.Tree.{Tree}
use Rattle.cl_forms.specs.Forms.{Form, FormKind, FunctionForm}
use Rattle.cl_forms.specs.Order.{is_in, IsGoodOrder}
use Rattle.cl_forms.specs.Writes.{Writes}
use Rattle.cl_rules.specs.Context.{Known}
use Rattle.cl_rules.specs.Acceptance.{calls_public, forms_at, WritesWrongly, FirstWriting, NoneWrites}
use Rattle.cl_answers.specs.Laws.{EachWritesOrNot}

-- ---- one form

module _ (decided : EachWritesOrNot) (deployed : List Known) (own : Principal) (forms : List Form) (form : Form) where
  abbrev Wrong : Type 0
  Wrong = WritesWrongly deployed own forms form

  by_writing : (name : List ℕ) (params : List (List ℕ × PlainType)) (body : Tree) → form.name ≡ Some name → form.kind ≡ FunctionForm ReadOnly params body →
      Writes forms (calls_public deployed own) name ⊎ (Writes forms (calls_public deployed own) name → ⊥) → Wrong ⊎ (Wrong → ⊥)
  by_writing name params body named kind (inl writes) = inl (record { name = name; params = params; body = body; named = named; read_only = kind; writes = writes })
  by_writing name params body named kind (inr none) = inr (λ w. none (subst (Writes forms (calls_public deployed own)) (same_name w.name name (sym w.named ∙ named)) w.writes))
    where
      same_name : (x y : List ℕ) → Some x ≡ Some y → x ≡ y
      same_name x y h = cc

  by_kind : (name : List ℕ) → form.name ≡ Some name → (kind : FormKind) → form.kind ≡ kind → Wrong ⊎ (Wrong → ⊥)
  by_kind name named (FunctionForm ReadOnly params body) is = by_writing name params body named is (decided forms (calls_public deployed own) name)
  by_kind name named kind is = inr (λ w. none w.params w.body (sym is ∙ w.read_only))
    where
      none : (params : List (List ℕ × PlainType)) (body : Tree) → kind ≡ FunctionForm ReadOnly params body → ⊥
      none params body h = cc

  by_name : (name : Option (List ℕ)) → form.name ≡ name → Wrong ⊎ (Wrong → ⊥)
  by_name None is = inr (λ w. none w.name (sym is ∙ w.named))
    where
      none : (name : List ℕ) → None ≡ Some name → ⊥
      none name h = cc
  by_name (Some name) is = by_kind name is form.kind refl

  wrong_or_not : Wrong ⊎ (Wrong → ⊥)
  wrong_or_not = by_name form.name refl

-- ---- the first of a row

same_form : (f g : Form) → Some f ≡ Some g → f ≡ g
same_form f g h = cc

module _ (P : Form → Type 0) (decided : (form : Form) → P form ⊎ (P form → ⊥)) where
  record First (row : List Form) : Type 0 where
    place : ℕ
    form : Form
    there : slice_get row place ≡ Some form
    holds : P form
    least : (m : ℕ) (other : Form) → slice_get row m ≡ Some other → P other → place ≤ m

  abbrev NoneOf : List Form → Type 0
  NoneOf row = (m : ℕ) (form : Form) → slice_get row m ≡ Some form → P form → ⊥

  behind : (f : Form) (row : List Form) → (P f → ⊥) → First row → First (f ∷ row)
  behind f row not_it later = record { place = suc later.place; form = later.form; there = later.there; holds = later.holds; least = least }
    where
      least : (m : ℕ) (other : Form) → slice_get (f ∷ row) m ≡ Some other → P other → suc later.place ≤ m
      least zero other there h = absurd (not_it (subst P (sym (same_form f other there)) h))
      least (suc m) other there h = omega (arith, later.least m other there h)

  none_behind : (f : Form) (row : List Form) → (P f → ⊥) → NoneOf row → NoneOf (f ∷ row)
  none_behind f row not_it none zero form there h = not_it (subst P (sym (same_form f form there)) h)
  none_behind f row not_it none (suc m) form there h = none m form there h

  first_or_none : (row : List Form) → First row ⊎ NoneOf row
  first_or_none [] = inr (λ m form there h. never form there)
    where
      never : (form : Form) → None ≡ Some form → ⊥
      never form h = cc
  first_or_none (f ∷ row) =
      elim (decided f) [
        | inl h ↦ inl (record { place = 0; form = f; there = refl; holds = h; least = λ m other there k. omega arith })
        | inr not_it ↦ elim (first_or_none row) [ inl later ↦ inl (behind f row not_it later) | inr none ↦ inr (none_behind f row not_it none) ]
      ]

-- ---- all forms stand in an order

place_in : (xs : List Form) (form : Form) → Contains xs form → (n : ℕ) × (n < length xs) × (slice_get xs n ≡ Some form)
place_in [] form (n, l, e) = absurd (omega (arith, l))
place_in (f ∷ xs) form (zero, l, e) = (0, l, ap (λ (f : Form). Some f) e)
place_in (f ∷ xs) form (suc n, l, e) = let p = place_in xs form (n, omega (arith, l), e) in (suc p.0, omega (arith, p.1), p.2)

at_first : (o : Option Form) (rest : List Form) (form : Form) → o ≡ Some form → slice_get (cons_option o rest) 0 ≡ Some form
at_first None rest form h = absurd cc
at_first (Some f) rest form h = h

at_later : (o : Option Form) (rest : List Form) (form : Form) → (m : ℕ) × (slice_get rest m ≡ Some form) → (m : ℕ) × (slice_get (cons_option o rest) m ≡ Some form)
at_later None rest form there = there
at_later (Some f) rest form there = (suc there.0, there.1)

in_order : (forms : List Form) (order : List ℕ) (n : ℕ) (form : Form) → is_in n order ≡ true → slice_get forms n ≡ Some form → (m : ℕ) × (slice_get (forms_at forms order) m ≡ Some form)
in_order forms [] n form there at = absurd cc
in_order forms (k ∷ order) n form there at = by (nat_eq n k) refl there (λ h. in_order forms order n form h at)
  where
    by : (b : Bool) → nat_eq n k ≡ b → (b || is_in n order) ≡ true → (is_in n order ≡ true → (m : ℕ) × (slice_get (forms_at forms order) m ≡ Some form)) → (m : ℕ) × (slice_get (forms_at forms (k ∷ order)) m ≡ Some form)
    by true e h rest = (0, at_first (slice_get forms k) (forms_at forms order) form (ap (slice_get forms) (sym (eqb-true n k e)) ∙ at))
    by false e h rest = at_later (slice_get forms k) (forms_at forms order) form (rest h)

-- ---- the law

abbrev pub WritingEnds : List Known → Principal → List Form → List ℕ → Type 0
WritingEnds deployed own forms order = NoneWrites deployed own forms ⊎ ((span : Span) × FirstWriting deployed own forms order span)

pub writing_ends : EachWritesOrNot → (deployed : List Known) (own : Principal) (forms : List Form) (order : List ℕ) → IsGoodOrder forms order → WritingEnds deployed own forms order
writing_ends decided deployed own forms order good = by (first_or_none (WritesWrongly deployed own forms) (wrong_or_not decided deployed own forms) (forms_at forms order))
  where
    by : First (WritesWrongly deployed own forms) (wrong_or_not decided deployed own forms) (forms_at forms order) ⊎ NoneOf (WritesWrongly deployed own forms) (wrong_or_not decided deployed own forms) (forms_at forms order) → WritingEnds deployed own forms order
    by (inl first) = inr (first.form.span, record { place = first.place; form = first.form; there = first.there; writes = first.holds; span_is = refl; least = first.least })
    by (inr none) = inl (λ form there w.
        let p = place_in forms form there in
        let q = in_order forms order p.0 form (good.complete p.0 p.1) p.2 in
        none q.0 form q.1 w)
