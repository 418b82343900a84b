-- Values of types but for the limits of depth and size, which the type keeps for them.
use Rattle.std.proofs.Common.{◌≡◌, ◌≤◌, true, false, nat_le, List, [], ◌∷◌, arith}
use Rattle.std.proofs.lemmas.Bool.{and_parts, leb-true}
use Rattle.cl_types.specs.Types.{PlainType, OptionalType, ResponseType, admits, size_of as type_size, depth_of as type_depth}
use Rattle.cl_types.specs.Sized.{IsSized, is_within, length_of}
use Rattle.cl_types.proofs.Everywhere.{here}
use Rattle.cl_values.specs.Tree.{Tree, NoneV, SomeV, ResponseV}
use Rattle.cl_values.specs.Valid.{InRange, has_rising_keys, has_good_texts, IsVal}
use Rattle.cl_values.specs.Wire.{size_of}
use Rattle.cl_values.specs.Inhabits.{inhabits}
use Rattle.cl_values.specs.Typed.{IsOf, AreOf, AllOf}
use Rattle.cl_values.proofs.Admitted.{admitted, bounded}
use Rattle.cl_values.proofs.Parts.{some_part, response_part}
use Rattle.cl_values.proofs.ByType.{optional_value, response_value}
use Rattle.cl_values.proofs.Depths.{no_deeper}

-- a value of a type, but for the limits of depth and size
pub record IsIn (v : Tree) (t : PlainType) : Type 0 where
  pub ranges : InRange v
  pub keys : has_rising_keys v ≡ true
  pub texts : has_good_texts v ≡ true
  pub typed : inhabits v t ≡ true

abbrev pub AreIn : List Tree → List PlainType → Type 0
AreIn [] [] = Unit {0}
AreIn (v ∷ vs) (t ∷ ts) = IsIn v t × AreIn vs ts
AreIn vs ts = ⊥

-- values of one type
abbrev pub AllIn : List Tree → PlainType → Type 0
AllIn [] t = Unit {0}
AllIn (v ∷ vs) t = IsIn v t × AllIn vs t

-- ---- the limits hold where the type keeps them

pub size_within : (t : PlainType) → IsSized t → type_size t ≤ 1048576
size_within t s = leb-true (type_size t) 1048576 (and_parts (nat_le (type_size t) 1048576) (nat_le (length_of t) 1048576) (here is_within t s.sizes)).0

-- a type whose depth and size are within the limits, which is all that its values need
pub record IsLimited (t : PlainType) : Type 0 where
  pub depth : type_depth t ≤ 32
  pub size : type_size t ≤ 1048576

pub sized_limits : (t : PlainType) → IsSized t → IsLimited t
sized_limits t s = record { depth = s.depth; size = size_within t s }

pub is_of : (v : Tree) (t : PlainType) → IsLimited t → IsIn v t → IsOf v t
is_of v t l i = record {
  valid = record {
    ranges = i.ranges;
    keys = i.keys;
    texts = i.texts;
    depth = omega (arith, no_deeper v t i.typed, l.depth);
    size = omega (arith, bounded v t i.ranges i.typed, l.size);
  };
  typed = i.typed;
}

pub is_in : (v : Tree) (t : PlainType) → IsOf v t → IsIn v t
is_in v t h = record { ranges = h.valid.ranges; keys = h.valid.keys; texts = h.valid.texts; typed = h.typed }

pub are_in : (vs : List Tree) (ts : List PlainType) → AreOf vs ts → AreIn vs ts
are_in [] [] h = tt
are_in (v ∷ vs) (t ∷ ts) h = (is_in v t h.0, are_in vs ts h.1)
are_in [] (t ∷ ts) h = h
are_in (v ∷ vs) [] h = h

-- a value of a type is no larger than it
pub no_larger : (v : Tree) (t : PlainType) → IsOf v t → size_of v ≤ type_size t
no_larger v t i = bounded v t i.valid.ranges i.typed

pub valid_by : (v : Tree) (t : PlainType) → IsSized t → InRange v → has_rising_keys v ≡ true → has_good_texts v ≡ true → inhabits v t ≡ true → IsVal v
valid_by v t s r k x i = (is_of v t (sized_limits t s) (record { ranges = r; keys = k; texts = x; typed = i })).valid

pub all_in : (vs : List Tree) (t : PlainType) → AllOf vs t → AllIn vs t
all_in [] t is = tt
all_in (v ∷ vs) t is = (is_in v t is.0, all_in vs t is.1)

-- ---- types that admit them

-- a value of a type is one of each type that admits it
pub raised : (v : Tree) (a b : PlainType) → admits a b ≡ true → IsIn v b → IsIn v a
raised v a b h i = record { ranges = i.ranges; keys = i.keys; texts = i.texts; typed = admitted v a b i.typed h }

pub raised_of : (v : Tree) (a b : PlainType) → admits a b ≡ true → IsOf v b → IsOf v a
raised_of v a b h i = record { valid = i.valid; typed = admitted v a b i.typed h }

pub all_raised : (vs : List Tree) (a b : PlainType) → admits a b ≡ true → AllIn vs b → AllIn vs a
all_raised [] a b h is = tt
all_raised (v ∷ vs) a b h is = (raised v a b h is.0, all_raised vs a b h is.1)

-- ---- parts

-- a value of an optional type is none, or some of a value
pub optional_of : (P : Tree → Type 0) (v : Tree) (t : PlainType) → IsOf v (OptionalType t) → P NoneV → ((w : Tree) → IsOf w t → P (SomeV w)) → P v
optional_of P v t i none some =
    optional_value (λ v. IsOf v (OptionalType t) → P v) v t i.typed (λ j. none) (λ w g j. some w (record { valid = some_part w j.valid; typed = g })) i

-- a value of a response type is ok or err of a value
pub response_of : (P : Tree → Type 0) (v : Tree) (t e : PlainType) → IsOf v (ResponseType t e) → ((w : Tree) → IsOf w t → P (ResponseV true w)) → ((w : Tree) → IsOf w e → P (ResponseV false w)) → P v
response_of P v t e i ok err =
    response_value (λ v. IsOf v (ResponseType t e) → P v) v t e i.typed
    (λ w g j. ok w (record { valid = response_part true w j.valid; typed = g }))
    (λ w g j. err w (record { valid = response_part false w j.valid; typed = g })) i
