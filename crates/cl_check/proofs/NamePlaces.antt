-- Each name has its place; one more definition at a time.
use Rattle.std.proofs.Common.{◌≡◌, ℕ, ◌+◌, ◌<◌, ◌≤◌, Bool, true, false, List, [], ◌∷◌, ◌++◌, map, length, get_or, slice_get, Option, Some, None, refl, sym, ap, subst, ◌∙◌, arith}
use Rattle.std.specs.Prelude.{nat_lt, if◌then◌else◌, is_some, option_map, option_and_then}
use Rattle.std.proofs.lemmas.Bool.{ltb-true, ltb-false}
use Rattle.std.proofs.lemmas.List.{length-map}
use Rattle.std.proofs.lemmas.Option.{slice_get_within, slice_get-map}
use Rattle.cl_types.proofs.Lattice.{keys_equal, key_same}
use Rattle.cl_forms.specs.Forms.{Form}
use Rattle.cl_forms.specs.Names.{name_at}
use Rattle.cl_code.specs.declared.definition.Definition.{Definition}
use Rattle.cl_code.specs.Definitions.{form_defined}
use Rattle.cl_rules.specs.Context.{same, named_in, is_named}
use Rattle.cl_check.specs.Placing.{ArePlaces, AreNamedApart, PlacedTo}
use Rattle.cl_check.proofs.WalkedForms.{at_here}

-- ---- one more entry

front_named : {A : Type 0} (x : List ℕ) (es : List (List ℕ × A)) (e : List ℕ × A) (a : A) → named_in x es ≡ Some a → named_in x (es ++ e ∷ []) ≡ Some a
front_named x [] e a h = absurd cc
front_named {A = A} x (f ∷ es) e a h = by (same f.0 x) h (front_named x es e a)
  where
    by : (b : Bool) → (if b then Some f.1 else named_in x es) ≡ Some a → (named_in x es ≡ Some a → named_in x (es ++ e ∷ []) ≡ Some a) → (if b then Some f.1 else named_in x (es ++ e ∷ [])) ≡ Some a
    by true k rest = k
    by false k rest = rest k

last_named : {A : Type 0} (x : List ℕ) (es : List (List ℕ × A)) (e : List ℕ × A) → named_in x es ≡ None → named_in x (es ++ e ∷ []) ≡ (if same e.0 x then Some e.1 else None)
last_named x [] e h = refl
last_named {A = A} x (f ∷ es) e h = by (same f.0 x) h (last_named x es e)
  where
    by : (b : Bool) → (if b then Some f.1 else named_in x es) ≡ None → (named_in x es ≡ None → named_in x (es ++ e ∷ []) ≡ (if same e.0 x then Some e.1 else None)) → (if b then Some f.1 else named_in x (es ++ e ∷ [])) ≡ (if same e.0 x then Some e.1 else None)
    by true k rest = absurd cc
    by false k rest = rest k

picked : {A : Type 0} (a : A) (b : Bool) → b ≡ true → (if b then Some a else None) ≡ Some a
picked a true h = refl
picked a false h = absurd cc

one_name : (x y : List ℕ) → Some x ≡ Some y → x ≡ y
one_name x y h = cc

no_name : (x : List ℕ) → (let o : Option (List ℕ) = None in o) ≡ Some x → ⊥
no_name x h = cc

no_place : (n : ℕ) → (let o : Option ℕ = None in o) ≡ Some n → ⊥
no_place n h = cc

one_place : (n m : ℕ) → Some n ≡ Some m → n ≡ m
one_place n m h = cc

-- ---- how far the walk over definitions has come

pub none_placed : (forms : List Form) (es : List (List ℕ × ℕ)) → es ≡ [] → PlacedTo forms 0 es
none_placed forms es none = subst (λ (fs : List (List ℕ × ℕ)). PlacedTo forms 0 fs) (sym none) (record {
  placed = λ x n l h. absurd (omega (arith, l));
  named = λ x n h. absurd (no_place n h);
})

name_within : (forms : List Form) (n : ℕ) (x : List ℕ) → name_at forms n ≡ Some x → n < length forms
name_within forms n x h = by (slice_get forms n) refl h
  where
    by : (o : Option Form) → slice_get forms n ≡ o → option_and_then (λ (f : Form). f.name) o ≡ Some x → n < length forms
    by None e k = absurd (no_name x k)
    by (Some f) e k = slice_get_within forms n f e

pub all_placed : (forms : List Form) (k : ℕ) (es : List (List ℕ × ℕ)) → PlacedTo forms k es → length forms ≤ k → ArePlaces forms es
all_placed forms k es h end = record {
  placed = λ x n e. h.placed x n (omega (arith, name_within forms n x e, end)) e;
  named = λ x n e. (h.named x n e).1;
}

-- the name of a form is that of its definition
pub name_defined : (ds : List Definition) (k : ℕ) (d : Definition) → k < length ds → d ≡ get_or ds k d → name_at (map form_defined ds) k ≡ (form_defined d).name
name_defined ds k d low here = ap (option_and_then (λ (f : Form). f.name)) (slice_get-map form_defined ds k ∙ ap (option_map form_defined) (at_here ds k d low here))

pub nameless : (forms : List Form) (k : ℕ) (es : List (List ℕ × ℕ)) → name_at forms k ≡ None → PlacedTo forms k es → PlacedTo forms (k + 1) es
nameless forms k es none h = record {
  placed = λ x n l e. by x n l e (nat_lt n k) refl;
  named = λ x n e. let p = h.named x n e in (omega (arith, p.0), p.1);
}
  where
    by : (x : List ℕ) (n : ℕ) → n < k + 1 → name_at forms n ≡ Some x → (b : Bool) → nat_lt n k ≡ b → named_in x es ≡ Some n
    by x n l e true t = h.placed x n (ltb-true n k t) e
    by x n l e false t =
        let here : n ≡ k = omega (arith, l, ltb-false n k t) in
        absurd (no_name x (sym none ∙ ap (name_at forms) (sym here) ∙ e))

module _ (forms : List Form) (k : ℕ) (es : List (List ℕ × ℕ)) (y : List ℕ) (own : AreNamedApart forms) (here : name_at forms k ≡ Some y) (h : PlacedTo forms k es) where
  not_before : (n : ℕ) → named_in y es ≡ Some n → ⊥
  not_before n e = let p = h.named y n e in omega (arith, p.0, own n k y p.1 here)

  pub is_new : is_named y es ≡ false
  is_new = by (named_in y es) refl
    where
      by : (o : Option ℕ) → named_in y es ≡ o → is_some o ≡ false
      by None e = refl
      by (Some n) e = absurd (not_before n e)

  gone : named_in y es ≡ None
  gone = by (named_in y es) refl
    where
      by : (o : Option ℕ) → named_in y es ≡ o → o ≡ None
      by None e = refl
      by (Some n) e = absurd (not_before n e)

  last_is : named_in y (es ++ (y, k) ∷ []) ≡ Some k
  last_is = last_named y es (y, k) gone ∙ picked k (same y y) (key_same y)

  placed_more : (x : List ℕ) (n : ℕ) → n < k + 1 → name_at forms n ≡ Some x → named_in x (es ++ (y, k) ∷ []) ≡ Some n
  placed_more x n l e = by (nat_lt n k) refl
    where
      by : (b : Bool) → nat_lt n k ≡ b → named_in x (es ++ (y, k) ∷ []) ≡ Some n
      by true t = front_named x es (y, k) n (h.placed x n (ltb-true n k t) e)
      by false t =
          let there : n ≡ k = omega (arith, l, ltb-false n k t) in
          let one : y ≡ x = one_name y x (sym here ∙ ap (name_at forms) (sym there) ∙ e) in
          ap (λ (z : List ℕ). named_in z (es ++ (y, k) ∷ [])) (sym one) ∙ last_is ∙ ap (λ (m : ℕ). Some m) (sym there)

  named_more : (x : List ℕ) (n : ℕ) → named_in x (es ++ (y, k) ∷ []) ≡ Some n → (n < k + 1) × (name_at forms n ≡ Some x)
  named_more x n e = by (named_in x es) refl
    where
      last : (b : Bool) → same y x ≡ b → (if b then Some k else None) ≡ Some n → (n < k + 1) × (name_at forms n ≡ Some x)
      last true s q =
          let there : k ≡ n = one_place k n q in
          (omega (arith, there), ap (name_at forms) (sym there) ∙ here ∙ ap (λ (z : List ℕ). Some z) (keys_equal y x s))
      last false s q = absurd (no_place n q)

      by : (o : Option ℕ) → named_in x es ≡ o → (n < k + 1) × (name_at forms n ≡ Some x)
      by (Some m) q =
          let there : m ≡ n = one_place m n (sym (front_named x es (y, k) m q) ∙ e) in
          let p = h.named x m q in
          (omega (arith, p.0, there), ap (name_at forms) (sym there) ∙ p.1)
      by None q = last (same y x) refl (sym (last_named x es (y, k) q) ∙ e)

  pub name_placed : (ds : List (List ℕ × ℕ)) → ds ≡ es ++ (y, k) ∷ [] → PlacedTo forms (k + 1) ds
  name_placed ds is = subst (λ (fs : List (List ℕ × ℕ)). PlacedTo forms (k + 1) fs) (sym is) (record { placed = placed_more; named = named_more })

pub all_names_placed : (ds : List Definition) (k : ℕ) (es : List (List ℕ × ℕ)) → PlacedTo (map form_defined ds) k es → length ds ≤ k → ArePlaces (map form_defined ds) es
all_names_placed ds k es h end = all_placed (map form_defined ds) k es h (omega (arith, length-map ds form_defined, end))
