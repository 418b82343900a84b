-- One more name stands behind those of a table.
use Rattle.std.proofs.Common.{◌≡◌, ◌⊎◌, inl, inr, ℕ, Bool, true, false, List, [], ◌∷◌, ◌++◌, map, Option, Some, None, refl, sym, ap, ◌∙◌}
use Rattle.std.specs.Prelude.{◌||◌, nat_eq, if◌then◌else◌, is_some}
use Rattle.std.specs.List.{list_any}
use Rattle.std.specs.Cmp.Lexicographic.{pointwise}
use Rattle.std.proofs.lemmas.Bool.{or_parts}
use Rattle.indexmap.specs.IndexMap.{IndexMap, insert_entry}
use Rattle.indexmap.proofs.CallerLemmas.{insert_entry-new}
use Rattle.cl_types.proofs.Lattice.{keys_equal}
use Rattle.cl_rules.specs.Context.{same, named_in, is_named}
use Rattle.cl_contracts.proofs.Places.{under_name}
use Rattle.cl_judging.specs.declared.context.Context.{Context as CodeContext}
use Rattle.cl_judging.specs.Seen.{top_level_in}

not_named : {A : Type 0} (x : List ℕ) (es : List (List ℕ × A)) → is_named x es ≡ false → named_in x es ≡ None
not_named {A = A} x es h = by (named_in x es) h
  where
    by : (o : Option A) → is_some o ≡ false → o ≡ None
    by None e = refl
    by (Some a) e = absurd cc

-- a name that isn't there is added last
pub at_end : {A S : Type 0} (x : List ℕ) (a : A) (m : IndexMap (List ℕ) A S) (es : List (List ℕ × A)) → is_named x m.entries ≡ false → es ≡ insert_entry (pointwise nat_eq) m.entries x a → es ≡ m.entries ++ (x, a) ∷ []
at_end x a m es none h = h ∙ insert_entry-new (pointwise nat_eq) m x a (under_name x m.entries ∙ not_named x m.entries none)

-- in none of the tables
pub record TopFree (c : CodeContext) (x : List ℕ) : Type 0 where
  pub constants : is_named x c.constants.entries ≡ false
  pub variables : is_named x c.variables.entries ≡ false
  pub maps : is_named x c.maps.entries ≡ false
  pub fungibles : list_any (same x) c.fungibles.keys ≡ false
  pub nonfungibles : is_named x c.nonfungibles.entries ≡ false
  pub functions : is_named x c.functions.entries ≡ false

pub top_free : (c : CodeContext) (x : List ℕ) → top_level_in c x ≡ false → TopFree c x
top_free c x h =
    let a = or_parts (is_named x c.constants.entries || is_named x c.variables.entries || is_named x c.maps.entries || list_any (same x) c.fungibles.keys || is_named x c.nonfungibles.entries) (is_named x c.functions.entries) h in
    let b = or_parts (is_named x c.constants.entries || is_named x c.variables.entries || is_named x c.maps.entries || list_any (same x) c.fungibles.keys) (is_named x c.nonfungibles.entries) a.0 in
    let d = or_parts (is_named x c.constants.entries || is_named x c.variables.entries || is_named x c.maps.entries) (list_any (same x) c.fungibles.keys) b.0 in
    let e = or_parts (is_named x c.constants.entries || is_named x c.variables.entries) (is_named x c.maps.entries) d.0 in
    let f = or_parts (is_named x c.constants.entries) (is_named x c.variables.entries) e.0 in
    record { constants = f.0; variables = f.1; maps = e.1; fungibles = d.1; nonfungibles = b.1; functions = a.1 }

named_more : {A : Type 0} (y x : List ℕ) (a : A) (es : List (List ℕ × A)) → is_named y (es ++ (x, a) ∷ []) ≡ (is_named y es || same x y)
named_more y x a [] = by (same x y)
  where
    by : (b : Bool) → is_some (if b then Some a else None) ≡ b
    by true = refl
    by false = refl
named_more {A = A} y x a (e ∷ es) = by (same e.0 y) (named_more y x a es)
  where
    by : (b : Bool) → is_named y (es ++ (x, a) ∷ []) ≡ (is_named y es || same x y) → is_some (if b then Some e.1 else named_in y (es ++ (x, a) ∷ [])) ≡ (is_some (if b then Some e.1 else named_in y es) || same x y)
    by true rest = refl
    by false rest = rest

either_more : (F : Bool → Bool) (a n : Bool) → F (a || n) ≡ true → (n ≡ true) ⊎ (F a ≡ true)
either_more F a true h = inl refl
either_more F true false h = inr h
either_more F false false h = inr h

-- a name among all is the one that is added, or was among them before
pub names_more : {A : Type 0} (F : Bool → Bool) (y x : List ℕ) (a : A) (es ds : List (List ℕ × A)) → ds ≡ es ++ (x, a) ∷ [] → F (is_named y ds) ≡ true → (Some x ≡ Some y) ⊎ (F (is_named y es) ≡ true)
names_more F y x a es ds is h = by (either_more F (is_named y es) (same x y) (ap F (sym (named_more y x a es)) ∙ ap (λ ks. F (is_named y ks)) (sym is) ∙ h))
  where
    by : (same x y ≡ true) ⊎ (F (is_named y es) ≡ true) → (Some x ≡ Some y) ⊎ (F (is_named y es) ≡ true)
    by (inl e) = inl (ap (λ (z : List ℕ). Some z) (keys_equal x y e))
    by (inr e) = inr e

pub map_end : {A B C : Type 0} (f : A → C) (g : B → C) (xs : List A) (ys : List B) (x : A) (y : B) → map f xs ≡ map g ys → f x ≡ g y → map f (xs ++ x ∷ []) ≡ map g (ys ++ y ∷ [])
map_end f g [] [] x y h e = λ i. e i ∷ []
map_end f g [] (z ∷ ys) x y h e = absurd cc
map_end f g (z ∷ xs) [] x y h e = absurd cc
map_end f g (z ∷ xs) (w ∷ ys) x y h e =
    let one : f z ≡ g w = cc in
    let rest : map f xs ≡ map g ys = cc in
    λ i. one i ∷ map_end f g xs ys x y rest e i
