-- Types that are made.
use Rattle.std.proofs.Common.{◌≡◌, [], Bool, true, false, Result, Ok, Err, refl, sym, ◌∙◌}
use Rattle.std.specs.Prelude.{nat_lt, nat_le, not, ◌&&◌, if◌then◌else◌}
use Rattle.std.proofs.lemmas.Bool.{and_parts, ltb-false, leb-true}
use Rattle.cl_types.specs.Types.{PlainType, depth_of}
use Rattle.cl_types.specs.declared.sized.TyRefusal.{TyRefusal}
use Rattle.cl_types.specs.declared.fault.Fault.TheVariants.{Refused}
use Rattle.cl_types.specs.declared.sized.TyRefusal.TheVariants.{TooLarge as LargeTy, TooDeep as DeepTy, EmptyTuple, KeyTwice}
use Rattle.cl_types.specs.Sized.{everywhere, has_key, keys_differ, keys_are_names, keys_rise, is_within, most_depth, IsSized, sorted, made}
use Rattle.cl_types.proofs.Made.{sized_is_made}
use Rattle.cl_sexpr.specs.declared.rule.Rule.TheVariants.{TooLarge, TooDeep}
use Rattle.cl_rules.specs.Faults.{when}
use Rattle.cl_rules.specs.NativeTypes.{made as ruled_made}
use Rattle.cl_typing.specs.Verdicts.{Rules, first_rule, is_fit}

ok_same : {E : Type 0} (a b : PlainType) → (let v : Result PlainType E = Ok a in v) ≡ Ok b → a ≡ b
ok_same a b e = cc

ok_err : {E : Type 0} (a : PlainType) (f : E) → (let v : Result PlainType E = Ok a in v) ≡ Err f → ⊥
ok_err a f e = cc

pub fit_sized : (t : PlainType) → is_fit t ≡ true → IsSized t
fit_sized t h =
    let a = and_parts (everywhere keys_are_names t) (everywhere keys_rise t && (nat_le (depth_of t) 32 && everywhere is_within t)) h in
    let b = and_parts (everywhere keys_rise t) (nat_le (depth_of t) 32 && everywhere is_within t) a.1 in
    let d = and_parts (nat_le (depth_of t) 32) (everywhere is_within t) b.1 in
    record { names = a.0; keys = b.0; depth = leb-true (depth_of t) 32 d.0; sizes = d.1 }

pub fit_same : (t u : PlainType) → IsSized t → made t ≡ Ok u → u ≡ t
fit_same t u h m = sym (ok_same t u (sym (sized_is_made t h) ∙ m))

pub fit_never : (t : PlainType) (f : TyRefusal) → IsSized t → made t ≡ Err f → ⊥
fit_never t f h m = ok_err t f (sym (sized_is_made t h) ∙ m)

deep_ok : (a b c d : Bool) (x r : PlainType) → (if not a then Err EmptyTuple else if not b then Err KeyTwice else if c then Err DeepTy else if not d then Err LargeTy else Ok x) ≡ Ok r → c ≡ false
deep_ok false b c d x r h = absurd cc
deep_ok true false c d x r h = absurd cc
deep_ok true true true d x r h = absurd cc
deep_ok true true false d x r h = refl

not_deep : (t u : PlainType) → made t ≡ Ok u → nat_lt most_depth (depth_of t) ≡ false
not_deep t u h = deep_ok (everywhere has_key t) (everywhere keys_differ t) (nat_lt most_depth (depth_of t)) (everywhere is_within t) (sorted t) u h

sized_at : (t : PlainType) → everywhere keys_are_names t ≡ true → everywhere keys_rise t ≡ true → everywhere is_within t ≡ true → nat_lt most_depth (depth_of t) ≡ false → IsSized t
sized_at t n k s d = record { names = n; keys = k; depth = ltb-false most_depth (depth_of t) d; sizes = s }

pub made_holds : (t u : PlainType) → everywhere keys_are_names t ≡ true → everywhere keys_rise t ≡ true → everywhere is_within t ≡ true → made t ≡ Ok u → Rules (ruled_made t) (Ok u)
made_holds t u n k s m =
    let d : nat_lt most_depth (depth_of t) ≡ false = not_deep t u m in
    (λ i. when (not (s i)) TooLarge (when (d i) TooDeep []), ok_same t u (sym (sized_is_made t (sized_at t n k s d)) ∙ m), refl)

deep_by : (t : PlainType) (f : TyRefusal) → everywhere keys_are_names t ≡ true → everywhere keys_rise t ≡ true → everywhere is_within t ≡ true → made t ≡ Err f → (b : Bool) → nat_lt most_depth (depth_of t) ≡ b → b ≡ true
deep_by t f n k s m true d = refl
deep_by t f n k s m false d = absurd (ok_err t f (sym (sized_is_made t (sized_at t n k s d)) ∙ m))

pub made_deep : (t : PlainType) (f : TyRefusal) → everywhere keys_are_names t ≡ true → everywhere keys_rise t ≡ true → everywhere is_within t ≡ true → made t ≡ Err f → Rules (ruled_made t) (Err (Refused TooDeep))
made_deep t f n k s m =
    let d : nat_lt most_depth (depth_of t) ≡ true = deep_by t f n k s m (nat_lt most_depth (depth_of t)) refl in
    (λ i. first_rule (when (not (s i)) TooLarge (when (d i) TooDeep [])), refl)

pub made_large : (t : PlainType) → everywhere is_within t ≡ false → Rules (ruled_made t) (Err (Refused TooLarge))
made_large t s = (λ i. first_rule (when (not (s i)) TooLarge (when (nat_lt most_depth (depth_of t)) TooDeep [])), refl)
