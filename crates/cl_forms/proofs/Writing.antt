-- A test tells which functions write: what has a call that writes by the test, and what does by the relation.
use Rattle.std.proofs.Common.{◌≡◌, inl, inr, ℕ, zero, suc, Bool, true, List, [], ◌∷◌, sym, ap, ◌∙◌, arith}
use Rattle.std.specs.Prelude.{Contains, codes, ◌&&◌}
use Rattle.std.specs.List.{list_any}
use Rattle.std.proofs.lemmas.Bool.{or_cases, or_left, or_right, and_parts, and_from, false≢true}
use Rattle.std.proofs.lemmas.List.Elements.{Contains-push, Contains-append_left, Contains-append_right}
use Rattle.cl_types.proofs.Lattice.{keys_equal, key_same}
use Rattle.cl_sexpr.specs.declared.sexpr.Span.{Span}
use Rattle.cl_sexpr.specs.Tree.{Tree, LeafAt, Leaf, Named, Forest, Then}
use Rattle.cl_forms.specs.Forms.{Form}
use Rattle.cl_forms.specs.Names.{same, is_one_of}
use Rattle.cl_forms.specs.Writes.{writing_natives, applying_natives, Call, calls_in, gives_one, crosses, call_writes, has_write, Writes, WritesIn, by_native, by_function, by_name, by_contract}

pub any_there : {A : Type 0} (test : A → Bool) (xs : List A) (x : A) → Contains xs x → test x ≡ true → list_any test xs ≡ true
any_there test [] x (n, l, e) h = absurd (omega (arith, l))
any_there test (y ∷ xs) x (zero, l, e) h = or_left (test y) (list_any test xs) (ap test e ∙ h)
any_there test (y ∷ xs) x (suc n, l, e) h = or_right (test y) (list_any test xs) (any_there test xs x (n, omega (arith, l), e) h)

any_is : {A : Type 0} (test : A → Bool) (xs : List A) → list_any test xs ≡ true → (x : A) × Contains xs x × (test x ≡ true)
any_is test [] h = absurd (false≢true h)
any_is test (x ∷ xs) h =
    elim (or_cases (test x) (list_any test xs) h) [
      | inl first ↦ (x, Contains-append_left (x ∷ []) xs x (Contains-push [] x), first)
      | inr later ↦ let rest = any_is test xs later in (rest.0, Contains-append_right (x ∷ []) xs rest.0 rest.1, rest.2)
    ]

module _ (is_public : Leaf → List ℕ → Bool) (functions : List ℕ → Bool) (e : Tree) where
  -- ---- by the relation, and so by the test

  call_there : (c : Call) → Contains (calls_in e) c → call_writes functions is_public c ≡ true → has_write functions is_public e ≡ true
  call_there c there h = any_there (call_writes functions is_public) (calls_in e) c there h

  pub native_there : (x : List ℕ) (parts : Forest) → Contains (calls_in e) (record { operator = x; parts = parts }) → is_one_of writing_natives x ≡ true → has_write functions is_public e ≡ true
  native_there x parts there h = call_there (record { operator = x; parts = parts }) there (or_left (is_one_of writing_natives x) _ h)

  pub function_there : (x : List ℕ) (parts : Forest) → Contains (calls_in e) (record { operator = x; parts = parts }) → functions x ≡ true → has_write functions is_public e ≡ true
  function_there x parts there h = call_there (record { operator = x; parts = parts }) there (or_right (is_one_of writing_natives x) _ (or_left (functions x) _ h))

  pub name_there : (x f : List ℕ) (at : Span) (parts : Forest) → Contains (calls_in e) (record { operator = x; parts = Then (LeafAt (Named f) at) parts }) → is_one_of applying_natives x ≡ true → functions f ≡ true → has_write functions is_public e ≡ true
  name_there x f at parts there applies h = call_there (record { operator = x; parts = Then (LeafAt (Named f) at) parts }) there
      (or_right (is_one_of writing_natives x) _ (or_right (functions x) _
      (or_left (is_one_of applying_natives x && functions f) _ (and_from (is_one_of applying_natives x) (functions f) applies h))))

  pub contract_there : (x f : List ℕ) (contract : Leaf) (at at' : Span) (parts : Forest) → Contains (calls_in e) (record { operator = x; parts = Then (LeafAt contract at) (Then (LeafAt (Named f) at') parts) }) → x ≡ codes "contract-call?" → is_public contract f ≡ true → has_write functions is_public e ≡ true
  contract_there x f contract at at' parts there is h = call_there (record { operator = x; parts = Then (LeafAt contract at) (Then (LeafAt (Named f) at') parts) }) there
      (or_right (is_one_of writing_natives x) _ (or_right (functions x) _ (or_right (is_one_of applying_natives x && gives_one functions (Then (LeafAt contract at) (Then (LeafAt (Named f) at') parts))) _
      (and_from (same x (codes "contract-call?")) (is_public contract f) (ap (same x) (sym is) ∙ key_same x) h))))

  -- ---- by the test, and so by the relation, where each of these functions writes

  module _ (forms : List Form) (each : (x : List ℕ) → functions x ≡ true → Writes forms is_public x) where
    given_writes : (x : List ℕ) (parts : Forest) → Contains (calls_in e) (record { operator = x; parts = parts }) → is_one_of applying_natives x ≡ true → gives_one functions parts ≡ true → WritesIn forms is_public e
    given_writes x (Then (LeafAt (Named f) at) parts) there applies h = by_name at there applies (each f h)
    given_writes x parts there applies h = absurd cc

    crossing_writes : (x : List ℕ) (parts : Forest) → Contains (calls_in e) (record { operator = x; parts = parts }) → same x (codes "contract-call?") ≡ true → crosses is_public parts ≡ true → WritesIn forms is_public e
    crossing_writes x (Then (LeafAt contract at) (Then (LeafAt (Named f) at') parts)) there is h = by_contract at at' there (keys_equal x (codes "contract-call?") is) h
    crossing_writes x parts there is h = absurd cc

    call_is : (c : Call) → Contains (calls_in e) c → call_writes functions is_public c ≡ true → WritesIn forms is_public e
    call_is c there h =
        elim (or_cases (is_one_of writing_natives c.operator) _ h) [
          | inl native ↦ by_native there native
          | inr h ↦ elim (or_cases (functions c.operator) _ h) [
            | inl function ↦ by_function there (each c.operator function)
            | inr h ↦ elim (or_cases (is_one_of applying_natives c.operator && gives_one functions c.parts) _ h) [
              | inl h ↦ let both = and_parts (is_one_of applying_natives c.operator) (gives_one functions c.parts) h in given_writes c.operator c.parts there both.0 both.1
              | inr h ↦ let both = and_parts (same c.operator (codes "contract-call?")) (crosses is_public c.parts) h in crossing_writes c.operator c.parts there both.0 both.1
            ]
          ]
        ]

    pub write_is : has_write functions is_public e ≡ true → WritesIn forms is_public e
    write_is h = let call = any_is (call_writes functions is_public) (calls_in e) h in call_is call.0 call.1 call.2
