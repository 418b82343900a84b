-- Parts of types within the limits are within them.
use Rattle.std.proofs.Common.{◌≡◌, ℕ, List, [], ◌∷◌, arith, ◌&&◌, Bool, true, false, refl, ap, ◌∙◌}
use Rattle.std.specs.Prelude.{min}
use Rattle.std.proofs.lemmas.List.{take_all}
use Rattle.std.proofs.Common.{◌<◌, ◌-◌, take, length, map, drop, get_or, sym}
use Rattle.cl_code.specs.Typed.{Typed, type_of}
use Rattle.cl_types.specs.Sized.{length_of}
use Rattle.cl_rules.specs.CallShapes.{least_length}
use Rattle.cl_bound.specs.Own.{least_with}
use Rattle.cl_types.specs.Types.{PlainType, ResponseType, ListType}
use Rattle.cl_types.specs.Sized.{IsSized, everywhere, is_within}

and_last : (a b : Bool) → (a && b) ≡ true → b ≡ true
and_last true b h = h
and_last false b h = absurd cc

and_middle : (a b c : Bool) → (a && b && c) ≡ true → b ≡ true
and_middle true true c h = refl
and_middle true false c h = absurd cc
and_middle false b c h = absurd cc

pub bad_within : (g b t : PlainType) → ResponseType g b ≡ t → IsSized t → everywhere is_within b ≡ true
bad_within g b t is sized = and_last _ (everywhere is_within b) (ap (everywhere is_within) is ∙ sized.sizes)

pub good_within : (g b t : PlainType) → ResponseType g b ≡ t → IsSized t → everywhere is_within g ≡ true
good_within g b t is sized = and_middle _ (everywhere is_within g) (everywhere is_within b) (ap (everywhere is_within) is ∙ sized.sizes)

pub entry_within : (n : ℕ) (e t : PlainType) → ListType n e ≡ t → IsSized t → everywhere is_within e ≡ true
entry_within n e t is sized = and_last _ (everywhere is_within e) (ap (everywhere is_within) is ∙ sized.sizes)

-- ---- least lengths

least_turn : (n : ℕ) (t : PlainType) (ts : List PlainType) → least_with n (t ∷ ts) ≡ min n (least_length (t ∷ ts))
least_turn n t [] = refl
least_turn n t (u ∷ ts) =
    least_turn (min n (length_of t)) u ts
    ∙ (let turned : min (min n (length_of t)) (least_length (u ∷ ts)) ≡ min n (min (length_of t) (least_length (u ∷ ts))) = omega arith in turned)

pub least_is : (t : PlainType) (ts : List PlainType) → least_with (length_of t) ts ≡ least_length (t ∷ ts)
least_is t [] = refl
least_is t (u ∷ ts) = least_turn (length_of t) u ts

pub least_parts : (qs : List Typed) (q : Typed) (t : PlainType) (n r : ℕ) → 0 < length qs → get_or qs 0 q ≡ q → type_of q ≡ t → n ≡ length_of t → r ≡ least_with n (map type_of (take (length qs - 1) (drop 1 qs))) → r ≡ least_length (map type_of qs)
least_parts [] q t n r some at type count is = absurd (omega (arith, some))
least_parts (p ∷ qs) q t n r some at type count is =
    is ∙ ap (λ (ps : List Typed). least_with n (map type_of ps)) (take_all (length (p ∷ qs) - 1) qs (omega arith))
    ∙ ap (λ (m : ℕ). least_with m (map type_of qs)) (count ∙ ap length_of (sym type ∙ ap type_of (sym at))) ∙ least_is (type_of p) (map type_of qs)
