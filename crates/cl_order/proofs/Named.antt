-- The places of the forms that a form names.
use Rattle.std.proofs.Common.{◌≡◌, refl, sym, ap, subst, ◌∙◌, inl, inr, ◌⊎◌, ℕ, zero, suc, ◌<◌, ◌+◌, List, [], ◌∷◌, length, arith, Bool, true, false, nat_eq, eqb-true, if◌then◌else◌, slice_get, Option, Some, None}
use Rattle.std.proofs.lemmas.Bool.{or_cases, or_left, or_right, false≢true}
use Rattle.cl_forms.specs.Forms.{Form}
use Rattle.cl_forms.specs.Names.{is_among, atoms_of_form, places_from, named_by, Names}
use Rattle.cl_forms.specs.Order.{is_in}
use Rattle.cl_order.proofs.Members.{same_number}

-- the places that the form at a place names
abbrev pub next : List Form → ℕ → List ℕ
next forms n = named_by forms (slice_get forms n)

pub there_below : {A : Type 0} (xs : List A) (n : ℕ) (x : A) → slice_get xs n ≡ Some x → n < length xs
there_below [] n x h = cc
there_below (y ∷ ys) zero x h = omega arith
there_below (y ∷ ys) (suc n) x h = let low : n < length ys = there_below ys n x h in omega arith

-- a form with a name among these at a place
pub record Placed (xs : List (List ℕ)) (fs : List Form) (k m : ℕ) : Type 0 where
  pub turn : ℕ
  pub form : Form
  pub at : m ≡ k + turn
  pub there : slice_get fs turn ≡ Some form
  pub among : is_among xs form.name ≡ true

chosen : (b : Bool) (k m : ℕ) (rest : List ℕ) → is_in m (if b then k ∷ rest else rest) ≡ true → ((b ≡ true) × (m ≡ k)) ⊎ (is_in m rest ≡ true)
chosen true k m rest h = elim (or_cases (nat_eq m k) (is_in m rest) h) [ inl e ↦ inl (refl, eqb-true m k e) | inr e ↦ inr e ]
chosen false k m rest h = inr h

chosen_here : (b : Bool) (k : ℕ) (rest : List ℕ) → b ≡ true → is_in k (if b then k ∷ rest else rest) ≡ true
chosen_here true k rest e = or_left (nat_eq k k) (is_in k rest) (same_number k)
chosen_here false k rest e = absurd (false≢true e)

chosen_later : (b : Bool) (k m : ℕ) (rest : List ℕ) → is_in m rest ≡ true → is_in m (if b then k ∷ rest else rest) ≡ true
chosen_later true k m rest h = or_right (nat_eq m k) (is_in m rest) h
chosen_later false k m rest h = h

placed_later : (xs : List (List ℕ)) (f : Form) (fs : List Form) (k m : ℕ) → Placed xs fs (k + 1) m → Placed xs (f ∷ fs) k m
placed_later xs f fs k m p = record { turn = suc p.turn; form = p.form; at = let e : m ≡ (k + 1) + p.turn = p.at in omega arith; there = p.there; among = p.among }

pub placed : (xs : List (List ℕ)) (fs : List Form) (k m : ℕ) → is_in m (places_from k xs fs) ≡ true → Placed xs fs k m
placed xs [] k m h = absurd (false≢true h)
placed xs (f ∷ fs) k m h =
    elim (chosen (is_among xs f.name) k m (places_from (k + 1) xs fs) h) [
      | inl p ↦ record { turn = 0; form = f; at = let e : m ≡ k = p.1 in omega arith; there = refl; among = p.0 }
      | inr e ↦ placed_later xs f fs k m (placed xs fs (k + 1) m e)
    ]

pub placed_in : (xs : List (List ℕ)) (fs : List Form) (k i : ℕ) (g : Form) → slice_get fs i ≡ Some g → is_among xs g.name ≡ true → is_in (k + i) (places_from k xs fs) ≡ true
placed_in xs [] k i g there among = cc
placed_in xs (f ∷ fs) k zero g there among =
    let same : g ≡ f = cc in
    let here : k + 0 ≡ k = omega arith in
    subst (λ (n : ℕ). is_in n (places_from k xs (f ∷ fs)) ≡ true) (sym here) (chosen_here (is_among xs f.name) k (places_from (k + 1) xs fs) (ap (λ (h : Form). is_among xs h.name) (sym same) ∙ among))
placed_in xs (f ∷ fs) k (suc i) g there among =
    let here : (k + 1) + i ≡ k + suc i = omega arith in
    chosen_later (is_among xs f.name) k (k + suc i) (places_from (k + 1) xs fs)
    (subst (λ (n : ℕ). is_in n (places_from (k + 1) xs fs) ≡ true) here (placed_in xs fs (k + 1) i g there among))

named_of : (forms : List Form) (n m : ℕ) (o : Option Form) → slice_get forms n ≡ o → is_in m (named_by forms o) ≡ true → Names forms n m
named_of forms n m None here h = absurd (false≢true h)
named_of forms n m (Some f) here h =
    let p : Placed (atoms_of_form f) forms 0 m = placed (atoms_of_form f) forms 0 m h in
    let at : p.turn ≡ m = let e : m ≡ 0 + p.turn = p.at in omega arith in
    record { form = f; other = p.form; here = here; there = subst (λ (k : ℕ). slice_get forms k ≡ Some p.form) at p.there; names = p.among }

-- a place among those that a form names is that of a form that it names
pub next_named : (forms : List Form) (n m : ℕ) → is_in m (next forms n) ≡ true → Names forms n m
next_named forms n m h = named_of forms n m (slice_get forms n) refl h

pub named_next : (forms : List Form) (n m : ℕ) → Names forms n m → is_in m (next forms n) ≡ true
named_next forms n m h =
    let at : 0 + m ≡ m = omega arith in
    subst (λ (o : Option Form). is_in m (named_by forms o) ≡ true) (sym h.here)
    (subst (λ (k : ℕ). is_in k (places_from 0 (atoms_of_form h.form) forms) ≡ true) at (placed_in (atoms_of_form h.form) forms 0 m h.other h.there h.names))

pub namer_below : (forms : List Form) (n m : ℕ) → Names forms n m → n < length forms
namer_below forms n m h = there_below forms n h.form h.here

pub named_below : (forms : List Form) (n m : ℕ) → Names forms n m → m < length forms
named_below forms n m h = there_below forms m h.other h.there
