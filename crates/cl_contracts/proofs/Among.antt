-- What is defined under a name, among definitions in a row.
use Rattle.std.proofs.Common.{◌≡◌, ◌⊎◌, inl, inr, ℕ, Bool, true, false, List, [], ◌∷◌, filter_map, slice_get, Option, Some, None, refl, sym, ap, ◌∙◌}
use Rattle.std.specs.Prelude.{if◌then◌else◌, ◌||◌, nat_eq, option_map, option_and_then}
use Rattle.std.specs.List.{cons_option}
use Rattle.std.specs.Option.{option_or}
use Rattle.std.proofs.lemmas.Bool.{eqb-true}
use Rattle.cl_forms.specs.Forms.{Form}
use Rattle.cl_forms.specs.Names.{name_at}
use Rattle.cl_forms.specs.Order.{is_in}
use Rattle.cl_code.specs.declared.definition.Definition.{Definition}
use Rattle.cl_code.specs.Definitions.{form_defined}
use Rattle.cl_meaning.specs.Deployed.{has_name}
use Rattle.cl_rules.specs.Context.{named_in}
use Rattle.cl_rules.specs.Verdicts.{Found}
use Rattle.cl_rules.specs.FormRules.{Defined, defined_after}
use Rattle.cl_contracts.specs.declared.parts.Parts.{Parts as Checked}
use Rattle.cl_contracts.specs.Seen.{forms_of, definition_under, IsIndexed}
use Rattle.cl_contracts.specs.Standings.{AllStand, StandsAs, definitions_in_order}
use Rattle.cl_contracts.proofs.Places.{get_map, within, has_it, self_same}

or_more : {A : Type 0} (a b c : Option A) → option_or (option_or a b) c ≡ option_or a (option_or b c)
or_more None b c = refl
or_more (Some x) b c = refl

pub or_none : {A : Type 0} (a : Option A) → option_or a None ≡ a
or_none None = refl
or_none (Some x) = refl

map_or : {A B : Type 0} (f : A → B) (a b : Option A) → option_map f (option_or a b) ≡ option_or (option_map f a) (option_map f b)
map_or f None b = refl
map_or f (Some x) b = refl

-- ---- one kind of definitions

abbrev pub if_so : {A : Type 0} → Bool → Option A → Option A
if_so b None = None
if_so b (Some a) = if b then Some a else None

-- a definition, if it is of this kind and has this name
abbrev pub one_of : {A : Type 0} → (Definition → Option A) → List ℕ → Definition → Option A
one_of kind x d = if_so (has_name x (form_defined d).name) (kind d)

-- the first such
abbrev pub among : {A : Type 0} → (Definition → Option A) → List ℕ → List Definition → Option A
among kind x [] = None
among kind x (d ∷ ds) = option_or (one_of kind x d) (among kind x ds)

-- what is shown of the first such is what is defined, where it is so of each definition
module _ {A B : Type 0} (kind : Definition → Option A) (shown : A → B) (x : List ℕ) (has : Defined → Option B)
    (one : (D : Defined) (d : Definition) (fs : List Found) → StandsAs D d fs → has (defined_after D (form_defined d) fs) ≡ option_or (has D) (option_map shown (one_of kind x d))) where
  pub all_defined : (D E : Defined) (ds : List Definition) → AllStand D ds E → has E ≡ option_or (has D) (option_map shown (among kind x ds))
  all_defined D E [] s = ap has (sym s) ∙ sym (or_none (has D))
  all_defined D E (d ∷ ds) s =
      all_defined (defined_after D (form_defined d) s.0) E ds s.2
      ∙ ap (λ (o : Option B). option_or o (option_map shown (among kind x ds))) (one D d s.0 s.1)
      ∙ or_more (has D) (option_map shown (one_of kind x d)) (option_map shown (among kind x ds))
      ∙ ap (option_or (has D)) (sym (map_or shown (one_of kind x d) (among kind x ds)))

-- ---- the definition of a name is the one at its place

abbrev first_at : {A : Type 0} → (ℕ → Option A) → List ℕ → Option A
first_at one [] = None
first_at one (n ∷ ns) = option_or (one n) (first_at one ns)

-- where nothing but one answer is given, and it is given somewhere, it is the first
first_is : {A : Type 0} (one : ℕ → Option A) (t : Option A) (ns : List ℕ) → ((n : ℕ) → (one n ≡ None) ⊎ (one n ≡ t)) → ((m : ℕ) × (is_in m ns ≡ true) × (one m ≡ t)) ⊎ (t ≡ None) → first_at one ns ≡ t
first_is one t [] each (inl s) = absurd cc
first_is one t [] each (inr e) = sym e
first_is {A = A} one t (n ∷ ns) each s = by (one n) refl (each n) (first_is one t ns each) s
  where
    at : (m : ℕ) → (b : Bool) → nat_eq m n ≡ b → (b || is_in m ns) ≡ true → one m ≡ t → one n ≡ None → ((m : ℕ) × (is_in m ns ≡ true) × (one m ≡ t)) ⊎ (t ≡ None)
    at m true e there h none = inr (sym h ∙ ap one (eqb-true m n e) ∙ none)
    at m false e there h none = inl (m, there, h)

    turn : one n ≡ None → ((m : ℕ) × (is_in m (n ∷ ns) ≡ true) × (one m ≡ t)) ⊎ (t ≡ None) → ((m : ℕ) × (is_in m ns ≡ true) × (one m ≡ t)) ⊎ (t ≡ None)
    turn none (inl h) = at h.0 (nat_eq h.0 n) refl h.1 h.2 none
    turn none (inr h) = inr h

    by : (o : Option A) → one n ≡ o → (one n ≡ None) ⊎ (one n ≡ t) → (((m : ℕ) × (is_in m ns ≡ true) × (one m ≡ t)) ⊎ (t ≡ None) → first_at one ns ≡ t) → ((m : ℕ) × (is_in m (n ∷ ns) ≡ true) × (one m ≡ t)) ⊎ (t ≡ None) → option_or o (first_at one ns) ≡ t
    by None e one_is rest h = rest (turn e h)
    by (Some a) e (inl none) rest h = absurd cc
    by (Some a) e (inr is) rest h = sym e ∙ is

module _ {A : Type 0} (kind : Definition → Option A) (x : List ℕ) (c : Checked) (ok : IsIndexed c) where
  abbrev under : Option A
  under = option_and_then kind (definition_under x c)

  abbrev one_at : ℕ → Option A
  one_at n = option_and_then (one_of kind x) (slice_get c.definitions.items n)

  -- a place in the order at which it stands, or there is none
  abbrev IsSomewhere : Type 0
  IsSomewhere = ((m : ℕ) × (is_in m c.order.items ≡ true) × (one_at m ≡ under)) ⊎ (under ≡ None)

  among_places : (ns : List ℕ) → among kind x (filter_map (slice_get c.definitions.items) ns) ≡ first_at one_at ns
  among_places [] = refl
  among_places (n ∷ ns) = by (slice_get c.definitions.items n) (among_places ns)
    where
      by : (o : Option Definition) → among kind x (filter_map (slice_get c.definitions.items) ns) ≡ first_at one_at ns →
          among kind x (cons_option o (filter_map (slice_get c.definitions.items) ns)) ≡ option_or (option_and_then (one_of kind x) o) (first_at one_at ns)
      by None rest = rest
      by (Some d) rest = ap (option_or (one_of kind x d)) rest

  named_at : (n : ℕ) (d : Definition) → slice_get c.definitions.items n ≡ Some d → name_at (forms_of c) n ≡ (form_defined d).name
  named_at n d h = ap (option_and_then (λ (f : Form). f.name)) (get_map c.definitions.items n ∙ ap (option_map form_defined) h)

  under_is : (n : ℕ) (d : Definition) → slice_get c.definitions.items n ≡ Some d → (form_defined d).name ≡ Some x → under ≡ kind d
  under_is n d h e =
      ap (λ (o : Option ℕ). option_and_then kind (option_and_then (slice_get c.definitions.items) o)) (ok.placed x n (named_at n d h ∙ e))
      ∙ ap (option_and_then kind) h

  each_one : (n : ℕ) → (one_at n ≡ None) ⊎ (one_at n ≡ under)
  each_one n = by (slice_get c.definitions.items n) refl
    where
      named : (d : Definition) (a : A) → slice_get c.definitions.items n ≡ Some d → kind d ≡ Some a → (b : Bool) → has_name x (form_defined d).name ≡ b → ((if b then Some a else None) ≡ None) ⊎ ((if b then Some a else None) ≡ under)
      named d a h k true e = inr (sym k ∙ sym (under_is n d h (has_it x (form_defined d).name e)))
      named d a h k false e = inl refl

      of_kind : (d : Definition) → slice_get c.definitions.items n ≡ Some d → (o : Option A) → kind d ≡ o → (if_so (has_name x (form_defined d).name) o ≡ None) ⊎ (if_so (has_name x (form_defined d).name) o ≡ under)
      of_kind d h None k = inl refl
      of_kind d h (Some a) k = named d a h k (has_name x (form_defined d).name) refl

      by : (o : Option Definition) → slice_get c.definitions.items n ≡ o → (option_and_then (one_of kind x) o ≡ None) ⊎ (option_and_then (one_of kind x) o ≡ under)
      by None h = inl refl
      by (Some d) h = of_kind d h (kind d) refl

  somewhere : IsSomewhere
  somewhere = by (named_in x c.places.entries) refl
    where
      there : (n : ℕ) (d : Definition) → slice_get c.definitions.items n ≡ Some d → (form_defined d).name ≡ Some x → (o : Option A) → kind d ≡ o → IsSomewhere
      there n d h e None k = inr (under_is n d h e ∙ k)
      there n d h e (Some a) k =
          let named : has_name x (form_defined d).name ≡ true = ap (has_name x) e ∙ self_same x in
          inl (
            n,
            ok.order.complete n (within (forms_of c) n (form_defined d) (get_map c.definitions.items n ∙ ap (option_map form_defined) h)),
            ap (option_and_then (one_of kind x)) h ∙ ap (if_so (has_name x (form_defined d).name)) k ∙ ap (λ (b : Bool). if b then Some a else None) named ∙ sym k ∙ sym (under_is n d h e),
          )

      defined : (n : ℕ) → named_in x c.places.entries ≡ Some n → (o : Option Definition) → slice_get c.definitions.items n ≡ o → IsSomewhere
      defined n k None h = inr (ap (λ (p : Option ℕ). option_and_then kind (option_and_then (slice_get c.definitions.items) p)) k ∙ ap (option_and_then kind) h)
      defined n k (Some d) h = there n d h (sym (named_at n d h) ∙ ok.named x n k) (kind d) refl

      by : (o : Option ℕ) → named_in x c.places.entries ≡ o → IsSomewhere
      by None k = inr (ap (λ (p : Option ℕ). option_and_then kind (option_and_then (slice_get c.definitions.items) p)) k)
      by (Some n) k = defined n k (slice_get c.definitions.items n) refl

  -- the first in the order of evaluation is the one under the name
  pub among_is : among kind x (definitions_in_order c) ≡ under
  among_is = among_places c.order.items ∙ first_is one_at under c.order.items each_one somewhere
