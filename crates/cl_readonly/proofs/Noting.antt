-- The functions that write are found one after another, along an order in which each comes after those that it names.
use Rattle.std.proofs.Common.{◌≡◌, ◌⊎◌, inl, inr, ℕ, zero, suc, ◌<◌, Bool, true, false, List, [], ◌∷◌, ◌++◌, length, Option, Some, None, refl, sym, ap, subst, ◌∙◌, arith, eqb-true}
use Rattle.std.specs.Prelude.{Contains, is_some, nat_eq, ◌||◌, ◌&&◌, if◌then◌else◌, slice_get, option_and_then}
use Rattle.std.specs.List.{list_any}
use Rattle.std.proofs.lemmas.List.Folds.{list_any-append}
use Rattle.std.proofs.lemmas.Bool.{or_right}
use Rattle.indexmap.specs.IndexSet.{insert_key}
use Rattle.cl_types.specs.Types.{PlainType}
use Rattle.cl_types.specs.declared.sized.Access.{Access}
use Rattle.cl_types.proofs.Lattice.{keys_equal, key_same}
use Rattle.cl_sexpr.specs.Tree.{Tree, LeafAt, Leaf, Named, Then}
use Rattle.cl_forms.specs.Forms.{Form, FormKind, FunctionForm}
use Rattle.cl_forms.specs.declared.version.Version.{Version}
use Rattle.cl_forms.specs.Heads.{native}
use Rattle.cl_forms.specs.Names.{same, Plain, atoms_in, atoms_of_form, atoms_of_expression, is_among, name_at, Names, is_one_of}
use Rattle.cl_forms.specs.Forms.{expression_of}
use Rattle.cl_forms.specs.Order.{is_in}
use Rattle.cl_forms.specs.Writes.{calls_in, Writes, WritesIn, has_writing_body, by_native, by_function, by_name, by_contract, has_write}
use Rattle.cl_forms.proofs.Writing.{any_there, native_there, function_there, name_there, contract_there, write_is}
use Rattle.cl_rules.specs.Context.{Context, Signature, signature_in}
use Rattle.cl_readonly.specs.Naming.{calls_it, NamesUnknown}
use Rattle.cl_readonly.specs.Functions.{HaveOwnNames}
use Rattle.cl_readonly.proofs.Tests.{either_is, differ}

pub place_in : (xs : List Form) (form : Form) → Contains xs form → (n : ℕ) × (slice_get xs n ≡ Some form)
place_in [] form (n, l, e) = absurd (omega (arith, l))
place_in (f ∷ xs) form (zero, l, e) = (0, ap (λ (f : Form). Some f) e)
place_in (f ∷ xs) form (suc n, l, e) = let p = place_in xs form (n, omega (arith, l), e) in (suc p.0, p.1)

pub within : (xs : List Form) (n : ℕ) (form : Form) → slice_get xs n ≡ Some form → n < length xs
within [] n form h = absurd cc
within (f ∷ xs) zero form h = omega arith
within (f ∷ xs) (suc n) form h = omega (arith, within xs n form h)

contained : (xs : List Form) (n : ℕ) (form : Form) → slice_get xs n ≡ Some form → Contains xs form
contained [] n form h = absurd cc
contained (f ∷ xs) zero form h = let is : f ≡ form = cc in (0, omega arith, is)
contained (f ∷ xs) (suc n) form h = let rest = contained xs n form h in (suc rest.0, omega (arith, rest.1), rest.2)

pub same_form : (f g : Form) → Some f ≡ Some g → f ≡ g
same_form f g h = cc

-- ---- signatures

abbrev pub is_known : List Signature → List ℕ → Bool
is_known ss x = is_some (signature_in x ss)

known_or : (s : Signature) (b : Bool) (o : Option Signature) → is_some (if b then Some s else o) ≡ (b || is_some o)
known_or s true o = refl
known_or s false o = refl

-- one more is known
known_more : (ss : List Signature) (s : Signature) (x : List ℕ) → is_known (ss ++ s ∷ []) x ≡ (is_known ss x || same s.name x)
known_more [] s x = known_or s (same s.name x) None ∙ right_none (same s.name x)
  where
    right_none : (b : Bool) → (b || false) ≡ b
    right_none true = refl
    right_none false = refl
known_more (r ∷ ss) s x =
    known_or r (same r.name x) (signature_in x (ss ++ s ∷ [])) ∙ ap (λ b. same r.name x || b) (known_more ss s x)
    ∙ turned (same r.name x) (is_known ss x) (same s.name x) ∙ ap (λ b. b || same s.name x) (sym (known_or r (same r.name x) (signature_in x ss)))
  where
    turned : (a b c : Bool) → (a || (b || c)) ≡ ((a || b) || c)
    turned true b c = refl
    turned false b c = refl

left_too : (a b : Bool) → a ≡ true → (a || b) ≡ true
left_too a b h = ap (λ c. c || b) h

-- ---- names of a set

one_inserted : (fs : List (List ℕ)) (name x : List ℕ) → is_one_of fs x ≡ true → is_one_of (insert_key same fs name) x ≡ true
one_inserted fs name x h = by (list_any (same name) fs)
  where
    by : (b : Bool) → is_one_of (if b then fs else fs ++ name ∷ []) x ≡ true
    by true = h
    by false = list_any-append (same x) fs (name ∷ []) ∙ left_too (is_one_of fs x) (same x name || false) h

inserted_there : (fs : List (List ℕ)) (name : List ℕ) → is_one_of (insert_key same fs name) name ≡ true
inserted_there fs name = by (list_any (same name) fs) refl
  where
    by : (b : Bool) → list_any (same name) fs ≡ b → is_one_of (if b then fs else fs ++ name ∷ []) name ≡ true
    by true e = e
    by false e = list_any-append (same name) fs (name ∷ []) ∙ or_right (is_one_of fs name) (same name name || false) (left_too (same name name) false (key_same name))

inserted_is : (fs : List (List ℕ)) (name x : List ℕ) → is_one_of (insert_key same fs name) x ≡ true → (is_one_of fs x ≡ true) ⊎ (name ≡ x)
inserted_is fs name x h = by (list_any (same name) fs) h
  where
    last : (b : Bool) → same x name ≡ b → (b || false) ≡ true → name ≡ x
    last true e h = sym (keys_equal x name e)
    last false e h = absurd cc

    by : (b : Bool) → is_one_of (if b then fs else fs ++ name ∷ []) x ≡ true → (is_one_of fs x ≡ true) ⊎ (name ≡ x)
    by true h = inl h
    by false h = elim (either_is (is_one_of fs x) (same x name || false) (sym (list_any-append (same x) fs (name ∷ [])) ∙ h)) [
      | inl old ↦ inl old
      | inr new ↦ inr (last (same x name) refl new)
    ]

-- ---- what stands so far

module _ (version : Version) (forms : List Form) (is_public : Leaf → List ℕ → Bool) where
  -- After the forms at these places, of whose functions these are the signatures, these are the functions so far that write.
  pub record Noted (ss : List Signature) (fs : List (List ℕ)) (front : List ℕ) : Type 0 where
    pub functions : (x : List ℕ) → is_one_of fs x ≡ true → (native version x ≡ None) × (is_known ss x ≡ true)
    pub sound : (x : List ℕ) → is_one_of fs x ≡ true → Writes forms is_public x
    pub complete : (x : List ℕ) → Writes forms is_public x → is_known ss x ≡ true → is_one_of fs x ≡ true
    pub known : (m : ℕ) (form : Form) (x : List ℕ) (access : Access) (params : List (List ℕ × PlainType)) (body : Tree) → is_in m front ≡ true → slice_get forms m ≡ Some form → form.name ≡ Some x → form.kind ≡ FunctionForm access params body → is_known ss x ≡ true

  in_more : (m n : ℕ) (front : List ℕ) → is_in m (front ++ n ∷ []) ≡ true → (is_in m front ≡ true) ⊎ (m ≡ n)
  in_more m n front h = elim (either_is (is_in m front) (nat_eq m n || false) (sym (list_any-append (nat_eq m) front (n ∷ [])) ∙ h)) [
    | inl old ↦ inl old
    | inr new ↦ elim (either_is (nat_eq m n) false new) [
      | inl one ↦ inr (eqb-true m n one)
      | inr never ↦ absurd (differ false never refl)
    ]
  ]

  -- what is no function changes nothing
  pub noted_past : (ss : List Signature) (fs : List (List ℕ)) (front : List ℕ) (n : ℕ) → ((form : Form) (access : Access) (params : List (List ℕ × PlainType)) (body : Tree) → slice_get forms n ≡ Some form → form.kind ≡ FunctionForm access params body → ⊥) → Noted ss fs front → Noted ss fs (front ++ n ∷ [])
  noted_past ss fs front n none noted = record {
    functions = noted.functions;
    sound = noted.sound;
    complete = noted.complete;
    known = λ m form x access params body there at named kind.
        elim (in_more m n front there) [
          | inl old ↦ noted.known m form x access params body old at named kind
          | inr new ↦ absurd (none form access params body (ap (slice_get forms) (sym new) ∙ at) kind)
        ];
  }

  -- ---- one function

  -- an expression that writes has a call that does, where what writes is known or named
  module _ (G : Context) (fs : List (List ℕ)) (e : Tree) (natives : (y : List ℕ) → Writes forms is_public y → native G.version y ≡ None)
      (complete : (y : List ℕ) → Writes forms is_public y → is_known G.functions y ≡ true → is_one_of fs y ≡ true) (known : (y : List ℕ) → Writes forms is_public y → list_any (same y) (atoms_in Plain e) ≡ true → is_known G.functions y ≡ true) where
    -- what is called and writes is among these
    called_writes : (y : List ℕ) → Writes forms is_public y → NamesUnknown G e → list_any (calls_it y) (calls_in e) ≡ true → is_one_of fs y ≡ true
    called_writes y w names called = by (is_known G.functions y) refl
      where
        by : (b : Bool) → is_known G.functions y ≡ b → is_one_of fs y ≡ true
        by true h = complete y w h
        by false h = absurd (differ (is_known G.functions y) (known y w (names y (natives y w) h Plain called)) h)

    must_write : (has_write (is_one_of fs) is_public e ≡ false → NamesUnknown G e) → WritesIn forms is_public e → has_write (is_one_of fs) is_public e ≡ true
    must_write names w = by (has_write (is_one_of fs) is_public e) refl
      where
        case : has_write (is_one_of fs) is_public e ≡ false → WritesIn forms is_public e → has_write (is_one_of fs) is_public e ≡ true
        case k (by_native {x = x} {parts = parts} there h) = native_there is_public (is_one_of fs) e x parts there h
        case k (by_function {x = x} {parts = parts} there w) =
            function_there is_public (is_one_of fs) e x parts there
            (called_writes x w (names k) (any_there (calls_it x) (calls_in e) (record { operator = x; parts = parts }) there (left_too (same x x) _ (key_same x))))
        case k (by_name {x = x} {f = f} {parts = parts} at there applies w) =
            name_there is_public (is_one_of fs) e x f at parts there applies
            (called_writes f w (names k) (any_there (calls_it f) (calls_in e) (record { operator = x; parts = Then (LeafAt (Named f) at) parts }) there (or_right (same f x) _ (ap (λ b. b && same f f) applies ∙ key_same f))))
        case k (by_contract {x = x} {f = f} {contract = contract} {parts = parts} at at' there is h) = contract_there is_public (is_one_of fs) e x f contract at at' parts there is h

        by : (b : Bool) → has_write (is_one_of fs) is_public e ≡ b → has_write (is_one_of fs) is_public e ≡ true
        by true h = h
        by false h = case h w

  module _ (own : HaveOwnNames version forms) (once : (x : List ℕ) (n m : ℕ) → name_at forms n ≡ Some x → name_at forms m ≡ Some x → n ≡ m) where
    named_at : (n : ℕ) (form : Form) (x : List ℕ) → slice_get forms n ≡ Some form → form.name ≡ Some x → name_at forms n ≡ Some x
    named_at n form x at named = ap (option_and_then (λ (f : Form). f.name)) at ∙ named

    own_natives : (y : List ℕ) → Writes forms is_public y → native version y ≡ None
    own_natives y (has_writing_body d w) = let p = place_in forms d.form d.there in own y p.0 (named_at p.0 d.form y p.1 d.named)

    module _ (G : Context) (of_version : G.version ≡ version) (fs : List (List ℕ)) (front : List ℕ) (n : ℕ) (form : Form) (name : List ℕ) (access : Access) (params : List (List ℕ × PlainType)) (body : Tree)
        (at : slice_get forms n ≡ Some form) (named : form.name ≡ Some name) (kind : form.kind ≡ FunctionForm access params body)
        (after : (m : ℕ) → Names forms n m → is_in m front ≡ true) (noted : Noted G.functions fs front) where
      -- what the body names is known
      named_known : (y : List ℕ) → Writes forms is_public y → list_any (same y) (atoms_in Plain body) ≡ true → is_known G.functions y ≡ true
      named_known y (has_writing_body {body = other} d w) there =
          let p = place_in forms d.form d.there in
          let atoms : atoms_of_form form ≡ atoms_in Plain body = ap (λ (k : FormKind). atoms_of_expression (expression_of k)) kind in
          let names : is_among (atoms_of_form form) d.form.name ≡ true = (λ i. is_among (atoms i) (d.named i)) ∙ there in
          noted.known p.0 d.form y d.access d.params other (after p.0 (record { form = form; other = d.form; here = at; there = p.1; names = names })) p.1 d.named d.function

      same_body : (k l : FormKind) (a b : Access) (ps qs : List (List ℕ × PlainType)) (c d : Tree) → k ≡ l → k ≡ FunctionForm a ps c → l ≡ FunctionForm b qs d → c ≡ d
      same_body k l a b ps qs c d e h g = cc

      itself_writes : (has_write (is_one_of fs) is_public body ≡ false → NamesUnknown G body) → Writes forms is_public name → has_write (is_one_of fs) is_public body ≡ true
      itself_writes names (has_writing_body {body = other} d w) =
          let p = place_in forms d.form d.there in
          let one : p.0 ≡ n = once name p.0 n (named_at p.0 d.form name p.1 d.named) (named_at n form name at named) in
          let forms_same : d.form ≡ form = same_form d.form form (sym p.1 ∙ ap (slice_get forms) one ∙ at) in
          let bodies : other ≡ body = same_body d.form.kind form.kind d.access access d.params params other body (ap (λ (f : Form). f.kind) forms_same) d.function kind in
          must_write G fs body (λ y w. ap (λ (v : Version). native v y) of_version ∙ own_natives y w) noted.complete named_known names (subst (WritesIn forms is_public) bodies w)

      name_is : (m : ℕ) (other : Form) (x : List ℕ) → m ≡ n → slice_get forms m ≡ Some other → other.name ≡ Some x → name ≡ x
      name_is m other x is there named' =
          let forms_same : form ≡ other = same_form form other (sym at ∙ ap (slice_get forms) (sym is) ∙ there) in
          same_name name x (sym named ∙ ap (λ (f : Form). f.name) forms_same ∙ named')
        where
          same_name : (x y : List ℕ) → Some x ≡ Some y → x ≡ y
          same_name x y h = cc

      -- with one more function
      pub noted_more : (s : Signature) (gs : List (List ℕ)) → s.name ≡ name → gs ≡ (if has_write (is_one_of fs) is_public body then insert_key same fs name else fs) → (has_write (is_one_of fs) is_public body ≡ false → NamesUnknown G body) → Noted (G.functions ++ s ∷ []) gs (front ++ n ∷ [])
      noted_more s gs s_is gs_is names = subst (λ (gs : List (List ℕ)). Noted (G.functions ++ s ∷ []) gs (front ++ n ∷ [])) (sym gs_is) (by (has_write (is_one_of fs) is_public body) refl)
        where
          old_known : (x : List ℕ) → is_known G.functions x ≡ true → is_known (G.functions ++ s ∷ []) x ≡ true
          old_known x h = known_more G.functions s x ∙ left_too (is_known G.functions x) (same s.name x) h

          new_known : (x : List ℕ) → name ≡ x → is_known (G.functions ++ s ∷ []) x ≡ true
          new_known x is = known_more G.functions s x ∙ or_right (is_known G.functions x) (same s.name x) ((λ i. same (s_is i) (sym is i)) ∙ key_same name)

          known_is : (x : List ℕ) → is_known (G.functions ++ s ∷ []) x ≡ true → (is_known G.functions x ≡ true) ⊎ (name ≡ x)
          known_is x h = elim (either_is (is_known G.functions x) (same s.name x) (sym (known_more G.functions s x) ∙ h)) [
            | inl old ↦ inl old
            | inr new ↦ inr (sym s_is ∙ keys_equal s.name x new)
          ]

          all_known : (m : ℕ) (other : Form) (x : List ℕ) (a : Access) (ps : List (List ℕ × PlainType)) (b : Tree) → is_in m (front ++ n ∷ []) ≡ true → slice_get forms m ≡ Some other → other.name ≡ Some x → other.kind ≡ FunctionForm a ps b → is_known (G.functions ++ s ∷ []) x ≡ true
          all_known m other x a ps b there at' named' kind' = elim (in_more m n front there) [
            | inl old ↦ old_known x (noted.known m other x a ps b old at' named' kind')
            | inr new ↦ new_known x (name_is m other x new at' named')
          ]

          by : (b : Bool) → has_write (is_one_of fs) is_public body ≡ b → Noted (G.functions ++ s ∷ []) (if b then insert_key same fs name else fs) (front ++ n ∷ [])
          by true h = record {
            functions = λ x there. elim (inserted_is fs name x there) [
              | inl old ↦ ((noted.functions x old).0, old_known x (noted.functions x old).1)
              | inr new ↦ (own x n (named_at n form x at (named ∙ ap (λ (y : List ℕ). Some y) new)), new_known x new)
            ];
            sound = λ x there. elim (inserted_is fs name x there) [
              | inl old ↦ noted.sound x old
              | inr new ↦ subst (Writes forms is_public) new (has_writing_body (record { form = form; access = access; params = params; there = contained forms n form at; named = named; function = kind }) (write_is is_public (is_one_of fs) body forms noted.sound h))
            ];
            complete = λ x w known. elim (known_is x known) [
              | inl old ↦ one_inserted fs name x (noted.complete x w old)
              | inr new ↦ subst (λ (y : List ℕ). is_one_of (insert_key same fs name) y ≡ true) new (inserted_there fs name)
            ];
            known = all_known;
          }
          by false h = record {
            functions = λ x there. ((noted.functions x there).0, old_known x (noted.functions x there).1);
            sound = noted.sound;
            complete = λ x w known. elim (known_is x known) [
              | inl old ↦ noted.complete x w old
              | inr new ↦ absurd (differ (has_write (is_one_of fs) is_public body) (itself_writes names (subst (Writes forms is_public) (sym new) w)) h)
            ];
            known = all_known;
          }
