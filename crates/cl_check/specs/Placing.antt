-- Definitions at the places of their forms, and the places of names.
use Rattle.std.specs.Prelude.{◌≡◌, ℕ, ◌<◌, List, [], ◌∷◌, slice_set, Option, Some}
use Rattle.cl_forms.specs.Forms.{Form}
use Rattle.cl_forms.specs.Names.{name_at}
use Rattle.cl_rules.specs.Context.{named_in}

-- slots after things were put at places, one after another
abbrev pub put_all : {A : Type 0} → List (Option A) → List ℕ → List A → List (Option A)
put_all slots ns [] = slots
put_all slots [] (x ∷ xs) = slots
put_all slots (n ∷ ns) (x ∷ xs) = put_all (slice_set slots n (Some x)) ns xs

-- no two forms have one name
abbrev pub AreNamedApart : List Form → Type 0
AreNamedApart forms = (n m : ℕ) (x : List ℕ) → name_at forms n ≡ Some x → name_at forms m ≡ Some x → n ≡ m

-- each name has the place of its form, and no other name has one
pub record ArePlaces (forms : List Form) (places : List (List ℕ × ℕ)) : Type 0 where
  pub placed : (x : List ℕ) (n : ℕ) → name_at forms n ≡ Some x → named_in x places ≡ Some n
  pub named : (x : List ℕ) (n : ℕ) → named_in x places ≡ Some n → name_at forms n ≡ Some x

-- so it is with the names of the forms before this place
pub record PlacedTo (forms : List Form) (k : ℕ) (places : List (List ℕ × ℕ)) : Type 0 where
  pub placed : (x : List ℕ) (n : ℕ) → n < k → name_at forms n ≡ Some x → named_in x places ≡ Some n
  pub named : (x : List ℕ) (n : ℕ) → named_in x places ≡ Some n → (n < k) × (name_at forms n ≡ Some x)
