-- Whether a function writes: the functions that write are found one after another, each by a body that writes where those
-- found before do, until there is no more.
use Rattle.std.proofs.Common.{◌≡◌, ◌⊎◌, inl, inr, ℕ, zero, suc, ◌≤◌, Bool, true, false, List, [], ◌∷◌, length, Option, Some, None, refl, sym, ap, subst, ◌∙◌, arith}
use Rattle.std.specs.Prelude.{Contains}
use Rattle.std.proofs.lemmas.Bool.{or_cases, or_left, or_right, false≢true}
use Rattle.std.proofs.lemmas.List.Elements.{Contains-push, Contains-append_left, Contains-append_right}
use Rattle.cl_types.specs.Types.{PlainType}
use Rattle.cl_types.specs.declared.sized.Access.{Access}
use Rattle.cl_types.proofs.Lattice.{keys_equal, key_same}
use Rattle.cl_sexpr.specs.Tree.{Tree, Leaf}
use Rattle.cl_forms.specs.Forms.{Form, FormKind, FunctionForm}
use Rattle.cl_forms.specs.Names.{same, is_one_of}
use Rattle.cl_forms.specs.Writes.{Writes, WritesIn, has_writing_body, by_native, by_function, by_name, by_contract, has_write}
use Rattle.cl_forms.proofs.Writing.{native_there, function_there, name_there, contract_there, write_is}
use Rattle.cl_answers.specs.Laws.{EachWritesOrNot}

module _ (forms : List Form) (is_public : Leaf → List ℕ → Bool) where
  -- each of these writes
  abbrev AllWrite : List (List ℕ) → Type 0
  AllWrite fs = (x : List ℕ) → is_one_of fs x ≡ true → Writes forms is_public x

  -- ---- functions with such a call

  -- a form that is a function, and writes where these do
  record Next (fs : List (List ℕ)) (form : Form) : Type 0 where
    name : List ℕ
    access : Access
    params : List (List ℕ × PlainType)
    body : Tree
    named : form.name ≡ Some name
    function : form.kind ≡ FunctionForm access params body
    writes : has_write (is_one_of fs) is_public body ≡ true

  next_writes : (fs : List (List ℕ)) → AllWrite fs → (form : Form) → Contains forms form → (n : Next fs form) → Writes forms is_public n.name
  next_writes fs each form there n = has_writing_body (record { form = form; access = n.access; params = n.params; there = there; named = n.named; function = n.function }) (write_is is_public (is_one_of fs) n.body forms each n.writes)

  same_body : (a b : Access) (ps qs : List (List ℕ × PlainType)) (c d : Tree) → FunctionForm a ps c ≡ FunctionForm b qs d → c ≡ d
  same_body a b ps qs c d h = cc

  next_or_not : (fs : List (List ℕ)) (form : Form) → Next fs form ⊎ (Next fs form → ⊥)
  next_or_not fs form = by_name form.name refl
    where
      by_test : (name : List ℕ) (access : Access) (params : List (List ℕ × PlainType)) (body : Tree) → form.name ≡ Some name → form.kind ≡ FunctionForm access params body → (b : Bool) → has_write (is_one_of fs) is_public body ≡ b → Next fs form ⊎ (Next fs form → ⊥)
      by_test name access params body named kind true h = inl (record { name = name; access = access; params = params; body = body; named = named; function = kind; writes = h })
      by_test name access params body named kind false h = inr (λ n. false≢true (sym h ∙ ap (has_write (is_one_of fs) is_public) (same_body access n.access params n.params body n.body (sym kind ∙ n.function)) ∙ n.writes))

      by_kind : (name : List ℕ) → form.name ≡ Some name → (kind : FormKind) → form.kind ≡ kind → Next fs form ⊎ (Next fs form → ⊥)
      by_kind name named (FunctionForm access params body) is = by_test name access params body named is (has_write (is_one_of fs) is_public body) refl
      by_kind name named kind is = inr (λ n. none n.access n.params n.body (sym is ∙ n.function))
        where
          none : (access : Access) (params : List (List ℕ × PlainType)) (body : Tree) → kind ≡ FunctionForm access params body → ⊥
          none access params body h = cc

      by_name : (name : Option (List ℕ)) → form.name ≡ name → Next fs form ⊎ (Next fs form → ⊥)
      by_name None is = inr (λ n. none n.name (sym is ∙ n.named))
        where
          none : (name : List ℕ) → None ≡ Some name → ⊥
          none name h = cc
      by_name (Some name) is = by_kind name is form.kind refl

  -- ---- one after another

  abbrev IsOneOf : List Form → Form → Type 0
  IsOneOf [] form = ⊥
  IsOneOf (f ∷ fs) form = (f ≡ form) ⊎ IsOneOf fs form

  contained : (xs : List Form) (form : Form) → IsOneOf xs form → Contains xs form
  contained [] form h = absurd h
  contained (f ∷ xs) form (inl is) = subst (Contains (f ∷ xs)) is (Contains-append_left (f ∷ []) xs f (Contains-push [] f))
  contained (f ∷ xs) form (inr h) = Contains-append_right (f ∷ []) xs form (contained xs form h)

  one_of : (xs : List Form) (form : Form) → Contains xs form → IsOneOf xs form
  one_of [] form (n, l, e) = absurd (omega (arith, l))
  one_of (f ∷ xs) form (zero, l, e) = inl e
  one_of (f ∷ xs) form (suc n, l, e) = inr (one_of xs form (n, omega (arith, l), e))

  -- such a function among forms, and the others
  record Taken (fs : List (List ℕ)) (left : List Form) : Type 0 where
    form : Form
    next : Next fs form
    there : IsOneOf left form
    others : List Form
    fewer : suc (length others) ≡ length left
    from : (other : Form) → IsOneOf others other → IsOneOf left other
    to : (other : Form) → IsOneOf left other → (form ≡ other) ⊎ IsOneOf others other

  taken_or_none : (fs : List (List ℕ)) (left : List Form) → Taken fs left ⊎ ((form : Form) → IsOneOf left form → Next fs form → ⊥)
  taken_or_none fs [] = inr (λ form h n. h)
  taken_or_none fs (f ∷ left) =
      elim (next_or_not fs f) [
        | inl next ↦ inl (record { form = f; next = next; there = inl refl; others = left; fewer = refl; from = λ other h. inr h; to = λ other h. h })
        | inr not_it ↦ elim (taken_or_none fs left) [
          | inl taken ↦ inl (record {
            form = taken.form;
            next = taken.next;
            there = inr taken.there;
            others = f ∷ taken.others;
            fewer = ap suc taken.fewer;
            from = λ other h. elim h [ inl is ↦ inl is | inr k ↦ inr (taken.from other k) ];
            to = λ other h. elim h [ inl is ↦ inr (inl is) | inr k ↦ elim (taken.to other k) [ inl is ↦ inl is | inr q ↦ inr (inr q) ] ];
          })
          | inr none ↦ inr (λ form h n. elim h [ inl is ↦ not_it (subst (Next fs) (sym is) n) | inr k ↦ none form k n ])
        ]
      ]

  -- each function of the contract is left, or is one of these
  abbrev AllSeen : List (List ℕ) → List Form → Type 0
  AllSeen fs left = (form : Form) → IsOneOf forms form → IsOneOf left form ⊎ ((name : List ℕ) → form.name ≡ Some name → is_one_of fs name ≡ true)

  -- functions that write, and each that writes where they do is one of them
  record Closed : Type 0 where
    functions : List (List ℕ)
    each : AllWrite functions
    closed : (form : Form) → Contains forms form → (n : Next functions form) → is_one_of functions n.name ≡ true

  same_name : (x y : List ℕ) → Some x ≡ Some y → x ≡ y
  same_name x y h = cc

  with_one : (fs : List (List ℕ)) (x : List ℕ) → AllWrite fs → Writes forms is_public x → AllWrite (x ∷ fs)
  with_one fs x each w y h =
      elim (or_cases (same y x) (is_one_of fs y) h) [
        | inl is ↦ subst (Writes forms is_public) (sym (keys_equal y x is)) w
        | inr old ↦ each y old
      ]

  seen_more : (fs : List (List ℕ)) (left : List Form) (t : Taken fs left) → AllSeen fs left → AllSeen (t.next.name ∷ fs) t.others
  seen_more fs left t seen form there =
      elim (seen form there) [
        | inl k ↦ elim (t.to form k) [
          | inl is ↦ inr (λ name named. or_left (same name t.next.name) (is_one_of fs name) (ap (same name) (same_name t.next.name name (sym t.next.named ∙ ap (λ (f : Form). f.name) is ∙ named)) ∙ key_same name))
          | inr q ↦ inl q
        ]
        | inr old ↦ inr (λ name named. or_right (same name t.next.name) (is_one_of fs name) (old name named))
      ]

  grown : (steps : ℕ) (fs : List (List ℕ)) (left : List Form) → length left ≤ steps → AllWrite fs → ((form : Form) → IsOneOf left form → IsOneOf forms form) → AllSeen fs left → Closed
  grown zero fs [] few each within seen = record { functions = fs; each = each; closed = λ form there n. elim (seen form (one_of forms form there)) [ inl k ↦ absurd k | inr old ↦ old n.name n.named ] }
  grown zero fs (f ∷ left) few each within seen = absurd (omega (arith, few))
  grown (suc steps) fs left few each within seen =
      elim (taken_or_none fs left) [
        | inl t ↦ grown steps (t.next.name ∷ fs) t.others (omega (arith, few, t.fewer))
            (with_one fs t.next.name each (next_writes fs each t.form (contained forms t.form (within t.form t.there)) t.next))
            (λ form h. within form (t.from form h))
            (seen_more fs left t seen)
        | inr none ↦ record { functions = fs; each = each; closed = λ form there n. elim (seen form (one_of forms form there)) [ inl k ↦ absurd (none form k n) | inr old ↦ old n.name n.named ] }
      ]

  closed_set : Closed
  closed_set = grown (length forms) [] forms few (λ x h. absurd (false≢true h)) (λ form h. h) (λ form h. inl h)
    where
      few : length forms ≤ length forms
      few = omega arith

  -- ---- what writes is in it

  module _ (set : Closed) where
    mutual
      writes_is : {x : List ℕ} → Writes forms is_public x → is_one_of set.functions x ≡ true
      writes_is {x = x} (has_writing_body {body = body} d w) =
          set.closed d.form d.there (record { name = x; access = d.access; params = d.params; body = body; named = d.named; function = d.function; writes = body_writes w })

      body_writes : {e : Tree} → WritesIn forms is_public e → has_write (is_one_of set.functions) is_public e ≡ true
      body_writes {e = e} (by_native {x = x} {parts = parts} there h) = native_there is_public (is_one_of set.functions) e x parts there h
      body_writes {e = e} (by_function {x = x} {parts = parts} there w) = function_there is_public (is_one_of set.functions) e x parts there (writes_is w)
      body_writes {e = e} (by_name {x = x} {f = f} {parts = parts} at there applies w) = name_there is_public (is_one_of set.functions) e x f at parts there applies (writes_is w)
      body_writes {e = e} (by_contract {x = x} {f = f} {contract = contract} {parts = parts} at at' there is h) = contract_there is_public (is_one_of set.functions) e x f contract at at' parts there is h

  writes_or_not : (set : Closed) (x : List ℕ) (b : Bool) → is_one_of set.functions x ≡ b → Writes forms is_public x ⊎ (Writes forms is_public x → ⊥)
  writes_or_not set x true h = inl (set.each x h)
  writes_or_not set x false h = inr (λ w. false≢true (sym h ∙ writes_is set w))

pub each_writes_or_not : EachWritesOrNot
each_writes_or_not forms is_public name = let set = closed_set forms is_public in writes_or_not forms is_public set name (is_one_of set.functions name) refl
