-- Arguments of stated kinds.
use Rattle.std.proofs.Common.{◌≡◌, ℕ, suc, ◌+◌, ◌<◌, ◌≤◌, Bool, true, false, List, [], ◌∷◌, map, length, drop, get_or, Result, Err, None, refl, sym, ap, ◌∙◌, arith}
use Rattle.std.proofs.lemmas.List.{drop_all}
use Rattle.cl_types.specs.Types.{PlainType}
use Rattle.cl_types.specs.declared.fault.Fault.{Fault}
use Rattle.cl_types.specs.declared.fault.Fault.TheVariants.{Refused}
use Rattle.cl_values.proofs.Lists.{rest_of}
use Rattle.cl_sexpr.specs.declared.rule.Rule.{Rule}
use Rattle.cl_sexpr.specs.declared.rule.Rule.TheVariants.{ArgumentKind}
use Rattle.cl_rules.specs.NativeTypes.{Ruled, if_kind}
use Rattle.cl_rules.specs.Shapes.{Wanted, Admitted, is_wanted, are_wanted}
use Rattle.cl_typing.specs.Verdicts.{Rules}

abbrev choice : Bool → Bool → Bool
choice first others = elim first [ true ↦ others | false ↦ false ]

pub unlike : (ws : List Wanted) (ts : List PlainType) → (length ws ≡ length ts → ⊥) → are_wanted ws ts ≡ false
unlike [] [] h = absurd (h refl)
unlike [] (t ∷ ts) h = refl
unlike (w ∷ ws) [] h = refl
unlike (w ∷ ws) (t ∷ ts) h = either (is_wanted w t) (unlike ws ts (λ e. h (ap suc e))) where
  either : (b : Bool) {c : Bool} → c ≡ false → choice b c ≡ false
  either true e = e
  either false e = refl

module _ {A B : Type 0} (wanted : A → Wanted) (type : B → PlainType) (ws : List A) (ts : List B) where
  abbrev pub Alike : ℕ → Type 0
  Alike i = are_wanted (map wanted (drop i ws)) (map type (drop i ts)) ≡ are_wanted (map wanted ws) (map type ts)

  pub wanted_end : (i : ℕ) → length ws ≤ i → length ws ≡ length ts → Alike i → true ≡ are_wanted (map wanted ws) (map type ts)
  wanted_end i far same left =
      sym (ap (λ (xs : List A). are_wanted (map wanted xs) (map type (drop i ts))) (drop_all i ws far) ∙ ap (λ (xs : List B). are_wanted [] (map type xs)) (drop_all i ts (omega (arith, far, same)))) ∙ left

  next : (i : ℕ) (w : A) (t : B) → i < length ws → length ws ≡ length ts → get_or ws i w ≡ w → get_or ts i t ≡ t → Alike i → (b : Bool) → b ≡ is_wanted (wanted w) (type t) → choice b (are_wanted (map wanted (drop (i + 1) ws)) (map type (drop (i + 1) ts))) ≡ are_wanted (map wanted ws) (map type ts)
  next i w t lt same at_w at_t left b is =
      ap (λ (c : Bool). choice c (are_wanted (map wanted (drop (i + 1) ws)) (map type (drop (i + 1) ts)))) is
      ∙ sym (ap (λ (xs : List A). are_wanted (map wanted xs) (map type (drop i ts))) (rest_of ws i w lt at_w) ∙ ap (λ (xs : List B). are_wanted (wanted w ∷ map wanted (drop (i + 1) ws)) (map type xs)) (rest_of ts i t (omega (arith, lt, same)) at_t))
      ∙ left

  pub wanted_stop : (i : ℕ) (w : A) (t : B) → i < length ws → length ws ≡ length ts → get_or ws i w ≡ w → get_or ts i t ≡ t → false ≡ is_wanted (wanted w) (type t) → Alike i → false ≡ are_wanted (map wanted ws) (map type ts)
  wanted_stop i w t lt same at_w at_t is left = next i w t lt same at_w at_t left false is

pub length_of_map : {A B : Type 0} (f : A → B) (xs : List A) → length (map f xs) ≡ length xs
length_of_map f [] = refl
length_of_map f (x ∷ xs) = ap suc (length_of_map f xs)

pub unlike_lists : {A B : Type 0} (wanted : A → Wanted) (type : B → PlainType) (ws : List A) (ts : List B) → (length ws ≡ length ts → ⊥) → false ≡ are_wanted (map wanted ws) (map type ts)
unlike_lists wanted type ws ts h = sym (unlike (map wanted ws) (map type ts) (λ e. h (sym (length_of_map wanted ws) ∙ e ∙ length_of_map type ts)))

-- each parameter's type is admitted
pub admitted : {P : Type 0} (type : P → PlainType) (ps : List P) → map Admitted (map type ps) ≡ map (λ p. Admitted (type p)) ps
admitted type [] = refl
admitted type (p ∷ ps) = ap (λ (ws : List Wanted). Admitted (type p) ∷ ws) (admitted type ps)

-- ---- rulings where the arguments are of the row's kinds

pub where_holds : (b : Bool) (R : Ruled) (r : Result PlainType (Fault Rule)) → b ≡ true → Rules R r → Rules (if_kind b R) r
where_holds true R r e h = h
where_holds false R r e h = absurd cc

pub where_fails : (b : Bool) (R : Ruled) → R.throws ≡ None → b ≡ false → Rules (if_kind b R) (Err (Refused ArgumentKind))
where_fails true R q e = absurd cc
where_fails false R q e = (refl, q)
