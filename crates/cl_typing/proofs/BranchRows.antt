-- Rows of match and try.
use Rattle.std.proofs.Common.{◌≡◌, Bool, true, List, [], ◌∷◌, length, map, get_or, Result, Ok, Err, refl, sym, subst, arith}
use Rattle.std.specs.Prelude.{nat_le, ◌&&◌}
use Rattle.std.proofs.lemmas.Bool.{and_parts, and_from, leb-true, le-leb}
use Rattle.cl_types.specs.Types.{PlainType, NoType, OptionalType, ResponseType, size_of}
use Rattle.cl_types.specs.Sized.{everywhere, is_within, IsSized}
use Rattle.cl_types.specs.SizedParts.{err_part}
use Rattle.cl_types.specs.declared.fault.Fault.{Fault}
use Rattle.cl_types.specs.declared.fault.Fault.TheVariants.{Refused, NoMemory}
use Rattle.cl_types.specs.declared.sized.TyRefusal.{TyRefusal}
use Rattle.cl_types.specs.declared.sized.TyRefusal.TheVariants.{Differ, TooLarge as LargeTy, TooDeep as DeepTy, EmptyTuple, KeyTwice}
use Rattle.cl_sexpr.specs.declared.rule.Rule.{Rule}
use Rattle.cl_sexpr.specs.declared.rule.Rule.TheVariants.{ArgumentKind}
use Rattle.cl_rules.specs.NativeTypes.{Ruled, fine, wrong_kind, and_lub, one}
use Rattle.cl_rules.specs.ControlShapes.{if_determined}
use Rattle.cl_typing.specs.Verdicts.{Rules}
use Rattle.cl_typing.specs.Branches.{optional_row, response_row}

-- ---- branches

refused : (r : Result PlainType TyRefusal) (b : Bool) (q : Rule) → Rules (and_lub r fine) (Err (Refused q)) → Rules (if_determined b (and_lub r fine)) (Err (Refused q))
refused (Ok u) b q h = absurd (let no = h.0 in cc)
refused (Err Differ) b q h = h
refused (Err LargeTy) b q h = h
refused (Err DeepTy) b q h = h
refused (Err EmptyTuple) b q h = h
refused (Err KeyTwice) b q h = h

pub branches_fail : (r : Result PlainType TyRefusal) (b : Bool) (f : Fault Rule) → Rules (and_lub r fine) (Err f) → Rules (if_determined b (and_lub r fine)) (Err f)
branches_fail r b (Refused q) h = refused r b q h
branches_fail r b NoMemory h = tt

pub optional_at : (ts : List PlainType) (t u v : PlainType) (r : Result PlainType (Fault Rule)) → ts ≡ t ∷ u ∷ v ∷ [] → Rules (optional_row (t ∷ u ∷ v ∷ [])) r → Rules (optional_row ts) r
optional_at ts t u v r is h = subst (λ (us : List PlainType). Rules (optional_row us) r) (sym is) h

pub response_at : (ts : List PlainType) (t u v : PlainType) (r : Result PlainType (Fault Rule)) → ts ≡ t ∷ u ∷ v ∷ [] → Rules (response_row (t ∷ u ∷ v ∷ [])) r → Rules (response_row ts) r
response_at ts t u v r is h = subst (λ (us : List PlainType). Rules (response_row us) r) (sym is) h

-- three things that are read one by one
pub three_read : {A B : Type 0} (f : A → B) (xs : List A) (a b c : A) → length xs ≡ 3 → a ≡ get_or xs 0 a → b ≡ get_or xs 1 b → c ≡ get_or xs 2 c → map f xs ≡ f a ∷ f b ∷ f c ∷ []
three_read f [] a b c n p q r = absurd (omega (arith, n))
three_read f (x ∷ []) a b c n p q r = absurd (omega (arith, n))
three_read f (x ∷ y ∷ []) a b c n p q r = absurd (omega (arith, n))
three_read f (x ∷ y ∷ z ∷ []) a b c n p q r = λ i. f (sym p i) ∷ f (sym q i) ∷ f (sym r i) ∷ []
three_read f (x ∷ y ∷ z ∷ w ∷ xs) a b c n p q r = absurd (omega (arith, n))

-- ---- the verdicts on matches are those of their rows

far_optional : (t : PlainType) (ts : List PlainType) → (length ts ≡ 2 → ⊥) → optional_row (t ∷ ts) ≡ wrong_kind
far_optional (OptionalType t) [] h = refl
far_optional (OptionalType t) (u ∷ []) h = refl
far_optional (OptionalType t) (u ∷ v ∷ []) h = absurd (h refl)
far_optional (OptionalType t) (u ∷ v ∷ w ∷ ts) h = refl
far_optional t ts h = refl

far_response : (t : PlainType) (ts : List PlainType) → (length ts ≡ 2 → ⊥) → response_row (t ∷ ts) ≡ wrong_kind
far_response (ResponseType t e) [] h = refl
far_response (ResponseType t e) (u ∷ []) h = refl
far_response (ResponseType t e) (u ∷ v ∷ []) h = absurd (h refl)
far_response (ResponseType t e) (u ∷ v ∷ w ∷ ts) h = refl
far_response t ts h = refl

unlike_three : (t : PlainType) (ts : List PlainType) → (length (t ∷ ts) ≡ 3 → ⊥) → length ts ≡ 2 → ⊥
unlike_three t ts h e = h (omega (arith, e))

wrong : (R : Ruled) → R ≡ wrong_kind → Rules R (Err (Refused ArgumentKind))
wrong R is = subst (λ (S : Ruled). Rules S (Err (Refused ArgumentKind))) (sym is) (refl, refl)

pub optional_else : (ts : List PlainType) → (length ts ≡ 3 → ⊥) → Rules (optional_row ts) (Err (Refused ArgumentKind))
optional_else [] h = (refl, refl)
optional_else (t ∷ ts) h = wrong (optional_row (t ∷ ts)) (far_optional t ts (unlike_three t ts h))

pub response_else : (ts : List PlainType) → (length ts ≡ 3 → ⊥) → Rules (response_row ts) (Err (Refused ArgumentKind))
response_else [] h = (refl, refl)
response_else (t ∷ ts) h = wrong (response_row (t ∷ ts)) (far_response t ts (unlike_three t ts h))

-- ---- try

pub err_alone_sized : (t e : PlainType) → IsSized (ResponseType t e) → IsSized (ResponseType NoType e)
err_alone_sized t e h =
    let part = err_part t e h in
    let here = and_parts (is_within (ResponseType t e) && everywhere is_within t) (everywhere is_within e) h.sizes in
    let first = and_parts (is_within (ResponseType t e)) (everywhere is_within t) here.0 in
    let sizes = and_parts (nat_le (size_of (ResponseType t e)) 1048576) true first.0 in
    record {
      names = part.names;
      keys = part.keys;
      depth = omega (arith, h.depth);
      sizes = and_from (is_within (ResponseType NoType e) && true) (everywhere is_within e) (and_from (is_within (ResponseType NoType e)) true (and_from (nat_le (size_of (ResponseType NoType e)) 1048576) true (le-leb (size_of (ResponseType NoType e)) 1048576 (omega (arith, leb-true (size_of (ResponseType t e)) 1048576 sizes.0))) refl) refl) part.sizes;
    }
