-- Written types within the limits.
use Rattle.std.specs.Prelude.{◌≡◌, ℕ, ◌≤◌, not, Bool, true, false, nat_le, nat_lt, if◌then◌else◌, Option, Some, None, option_and_then, Result, Err, refl}
use Rattle.std.proofs.Common.{sym, ap, arith}
use Rattle.std.proofs.lemmas.Bool.Decides.{nat_tests}
use Rattle.cl_types.specs.Types.{PlainType, depth_of}
use Rattle.cl_types.specs.Sized.{made, most_depth, everywhere, has_key, keys_differ}
use Rattle.cl_types.specs.declared.sized.TyRefusal.{TyRefusal}
use Rattle.cl_types.specs.declared.sized.TyRefusal.TheVariants.{TooDeep, EmptyTuple, KeyTwice}
use Rattle.cl_forms.specs.WrittenTypes.{made_type}
use Rattle.cl_forms.specs.TypeRoom.{within}

deep_cases : (a b c : Bool) (rest : Result PlainType TyRefusal) → c ≡ true → made_type (if not a then Err EmptyTuple else (if not b then Err KeyTwice else (if c then Err TooDeep else rest))) ≡ None
deep_cases false b c rest h = refl
deep_cases true false c rest h = refl
deep_cases true true c rest h = rw h refl

too_deep : (t : PlainType) → nat_le (depth_of t) most_depth ≡ false → made_type (made t) ≡ None
too_deep t h = deep_cases (everywhere has_key t) (everywhere keys_differ t) (nat_lt most_depth (depth_of t)) _ (grind (arith, nat_tests))

within_some : (b : Bool) (s t : PlainType) → Some t ≡ (if b then Some s else None) → (b ≡ true) × (t ≡ s)
within_some true s t h = (refl, cc)
within_some false s t h = absurd cc

-- a type that there was room for
pub has_room : (r : ℕ) (o : Option PlainType) (t : PlainType) → Some t ≡ within r o → depth_of t ≤ r
has_room r None t h = absurd cc
has_room r (Some s) t h = let k = within_some (nat_le (depth_of s) r) s t h in let e : t ≡ s = k.1 in let f : nat_le (depth_of s) r ≡ true = k.0 in rw e (grind (arith, nat_tests))

pub is_made : (o : Option PlainType) (t : PlainType) → Some t ≡ within most_depth o → made_type (made t) ≡ option_and_then (λ t. made_type (made t)) o
is_made None t h = absurd cc
is_made (Some s) t h = ap (λ u. made_type (made u)) (within_some (nat_le (depth_of s) most_depth) s t h).1

no_room : (b : Bool) (s : PlainType) → nat_le (depth_of s) most_depth ≡ b → None ≡ (if b then Some s else None) → None ≡ made_type (made s)
no_room true s e h = absurd cc
no_room false s e h = sym (too_deep s e)

pub is_none_made : (o : Option PlainType) → None ≡ within most_depth o → None ≡ option_and_then (λ t. made_type (made t)) o
is_none_made None h = refl
is_none_made (Some s) h = no_room (nat_le (depth_of s) most_depth) s refl h
