-- The last of several types, where no other is a response.
use Rattle.std.proofs.Common.{◌≡◌, ℕ, ◌+◌, ◌<◌, ◌≤◌, Bool, true, false, List, [], ◌∷◌, ◌++◌, map, length, drop, get_or, None, Result, Err, refl, sym, ap, subst, ◌∙◌}
use Rattle.std.specs.Prelude.{◌||◌}
use Rattle.std.proofs.lemmas.List.{drop_all}
use Rattle.cl_types.specs.Types.{PlainType}
use Rattle.cl_types.specs.TypeKinds.{is_response}
use Rattle.cl_types.specs.declared.fault.Fault.{Fault}
use Rattle.cl_types.specs.declared.fault.Fault.TheVariants.{Refused}
use Rattle.cl_values.proofs.Lists.{rest_of}
use Rattle.cl_sexpr.specs.declared.rule.Rule.{Rule}
use Rattle.cl_sexpr.specs.declared.rule.Rule.TheVariants.{UnusedResponse}
use Rattle.cl_rules.specs.Faults.{sound_types, when}
use Rattle.cl_rules.specs.NativeTypes.{fine}
use Rattle.cl_rules.specs.ControlShapes.{last_row, is_unused, last_of}
use Rattle.cl_typing.specs.Verdicts.{Rules, first_rule}

module _ {A : Type 0} (type : A → PlainType) (last : A) where
  one_more : (x : A) (xs : List A) → is_unused (map type (x ∷ (xs ++ last ∷ []))) ≡ (is_response (type x) || is_unused (map type (xs ++ last ∷ [])))
  one_more x [] = refl
  one_more x (y ∷ xs) = refl

  last_is : (xs : List A) → last_of (map type (xs ++ last ∷ [])) ≡ type last
  last_is [] = refl
  last_is (x ∷ []) = refl
  last_is (x ∷ y ∷ xs) = last_is (y ∷ xs)

  module _ (types others : List A) (whole : types ≡ others ++ last ∷ []) where
    abbrev pub Unused : ℕ → Type 0
    Unused i = is_unused (map type types) ≡ is_unused (map type (drop i others ++ last ∷ []))

    next : (i : ℕ) (x : A) → i < length others → get_or others i x ≡ x → Unused i → is_unused (map type types) ≡ (is_response (type x) || is_unused (map type (drop (i + 1) others ++ last ∷ [])))
    next i x lt at left = left ∙ ap (λ (xs : List A). is_unused (map type (xs ++ last ∷ []))) (rest_of others i x lt at) ∙ one_more x (drop (i + 1) others)

    pub unused_next : (i : ℕ) (x : A) → i < length others → get_or others i x ≡ x → is_response (type x) ≡ false → Unused i → Unused (i + 1)
    unused_next i x lt at is left = next i x lt at left ∙ ap (λ (b : Bool). b || is_unused (map type (drop (i + 1) others ++ last ∷ []))) is

    pub unused_stop : (i : ℕ) (x : A) → i < length others → get_or others i x ≡ x → is_response (type x) ≡ true → Unused i → Rules (last_row (map type types)) (Err (Refused UnusedResponse))
    unused_stop i x lt at is left =
        (ap (λ (b : Bool). first_rule (when b UnusedResponse [])) (next i x lt at left ∙ ap (λ (b : Bool). b || is_unused (map type (drop (i + 1) others ++ last ∷ []))) is), refl)

    pub unused_end : (i : ℕ) (r : Result PlainType (Fault Rule)) → length others ≤ i → Unused i → Rules (fine (type last)) r → Rules (last_row (map type types)) r
    unused_end i r far left h =
        let unused : is_unused (map type types) ≡ false = left ∙ ap (λ (xs : List A). is_unused (map type (xs ++ last ∷ []))) (drop_all i others far) in
        let is : last_of (map type types) ≡ type last = ap (λ (xs : List A). last_of (map type xs)) whole ∙ last_is others in
        subst (λ (b : Bool). Rules (record { faults = record sound_types { unused_response = b }; type = last_of (map type types); throws = None }) r) (sym unused) (subst (λ (t : PlainType). Rules (fine t) r) (sym is) h)
