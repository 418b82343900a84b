-- Least supertypes of several types.
use Rattle.std.proofs.Common.{◌≡◌, ℕ, ◌+◌, ◌<◌, ◌≤◌, List, map, length, drop, get_or, Result, Ok, Err, sym, ap, subst, ◌∙◌}
use Rattle.std.proofs.lemmas.List.{drop_all}
use Rattle.cl_types.specs.Types.{PlainType}
use Rattle.cl_types.specs.Lattice.{least_supertype}
use Rattle.cl_types.specs.declared.fault.Fault.{Fault}
use Rattle.cl_types.specs.declared.fault.Fault.TheVariants.{Refused, NoMemory}
use Rattle.cl_types.specs.declared.sized.TyRefusal.{TyRefusal}
use Rattle.cl_values.proofs.Lists.{rest_of}
use Rattle.cl_sexpr.specs.declared.rule.Rule.{Rule}
use Rattle.cl_rules.specs.NativeTypes.{Ruled, and_lub, lub_then}
use Rattle.cl_typing.specs.Verdicts.{Rules, Lubs, Joins}

-- what is made of several types, of which those from a place on are left
module _ {A : Type 0} (type : A → PlainType) (others : List A) (first : PlainType) where
  abbrev pub Left : PlainType → ℕ → Type 0
  Left t i = (make : PlainType → Ruled) → lub_then t (map type (drop i others)) make ≡ lub_then first (map type others) make

  pub joins_end : (i : ℕ) (t : PlainType) → length others ≤ i → Left t i → Joins first (map type others) (Ok t)
  joins_end i t far left make = sym (left make) ∙ ap (λ (xs : List A). lub_then t (map type xs) make) (drop_all i others far)

  next_left : (i : ℕ) (x : A) (t : PlainType) → i < length others → get_or others i x ≡ x → Left t i → (make : PlainType → Ruled) → and_lub (least_supertype t (type x)) (λ c. lub_then c (map type (drop (i + 1) others)) make) ≡ lub_then first (map type others) make
  next_left i x t lt at left make = sym (ap (λ (xs : List A). lub_then t (map type xs) make) (rest_of others i x lt at)) ∙ left make

  pub joins_next : (i : ℕ) (x : A) (t u : PlainType) → i < length others → get_or others i x ≡ x → Lubs (least_supertype t (type x)) (Ok u) → Left t i → Left u (i + 1)
  joins_next i x t u lt at is left make = sym (ap (λ (r : Result PlainType TyRefusal). and_lub r (λ c. lub_then c (map type (drop (i + 1) others)) make)) is) ∙ next_left i x t lt at left make

  pub joins_stop : (i : ℕ) (x : A) (t : PlainType) (f : Fault Rule) → i < length others → get_or others i x ≡ x → Lubs (least_supertype t (type x)) (Err f) → Left t i → Joins first (map type others) (Err f)
  joins_stop i x t (Refused q) lt at is left = λ make. subst (λ (R : Ruled). Rules R (Err (Refused q))) (next_left i x t lt at left make) (is (λ c. lub_then c (map type (drop (i + 1) others)) make))
  joins_stop i x t NoMemory lt at is left = tt

-- what is made of a least supertype
pub made_of_lub : (r : Result PlainType TyRefusal) (t : PlainType) (make : PlainType → Ruled) (result : Result PlainType (Fault Rule)) → r ≡ Ok t → Rules (make t) result → Rules (and_lub r make) result
made_of_lub r t make result is h = subst (λ (s : Result PlainType TyRefusal). Rules (and_lub s make) result) (sym is) h

pub lub_fails : (r : Result PlainType TyRefusal) (make : PlainType → Ruled) (f : Fault Rule) → Lubs r (Err f) → Rules (and_lub r make) (Err f)
lub_fails r make (Refused q) h = h make
lub_fails r make NoMemory h = tt
