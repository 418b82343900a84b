-- The least supertype of two types, going down both.
use Rattle.std.specs.Prelude.{◌≡◌, ℕ, max, List, Bool, false, if◌then◌else◌, nat_eq, nat_le, Option, Some, None, option_map, Result, Ok, Err}
use Rattle.std.specs.Cmp.Lexicographic.{pointwise}
use Rattle.cl_types.specs.declared.sized.TyRefusal.{TyRefusal}
use Rattle.cl_types.specs.declared.sized.TyRefusal.TheVariants.{Differ, TooLarge}
use Rattle.cl_types.specs.Types.{PlainType, NoType, IntType, UintType, BoolType, PrincipalType, BuffType, AsciiType, Utf8Type, ListType, TupleType, OptionalType, ResponseType, Fields, NoField, Field, size_of, IsLeastSupertype}
use Rattle.cl_types.specs.Sized.{most_size, everywhere}

-- made of two parts, where both are there
abbrev pub both : {A B C : Type 0} → (A → B → C) → Option A → Option B → Option C
both f (Some a) (Some b) = Some (f a b)
both f a b = None

-- the least type that admits both, where there is one: the greater length, the same keys, and part by part
abbrev mutual
  pub joined : PlainType → PlainType → Option PlainType
  joined a NoType = Some a
  joined NoType b = Some b
  joined IntType IntType = Some IntType
  joined UintType UintType = Some UintType
  joined BoolType BoolType = Some BoolType
  joined PrincipalType PrincipalType = Some PrincipalType
  joined (BuffType m) (BuffType n) = Some (BuffType (max m n))
  joined (AsciiType m) (AsciiType n) = Some (AsciiType (max m n))
  joined (Utf8Type m) (Utf8Type n) = Some (Utf8Type (max m n))
  joined (ListType m a) (ListType n b) = option_map (ListType (max m n)) (joined a b)
  joined (TupleType fs) (TupleType gs) = option_map TupleType (joined_fields fs gs)
  joined (OptionalType a) (OptionalType b) = option_map OptionalType (joined a b)
  joined (ResponseType a c) (ResponseType b d) = both ResponseType (joined a b) (joined c d)
  joined a b = None

  pub joined_fields : Fields → Fields → Option Fields
  joined_fields NoField NoField = Some NoField
  joined_fields (Field j a fs) (Field k b gs) = if pointwise nat_eq j k then both (Field j) (joined a b) (joined_fields fs gs) else None
  joined_fields fs gs = None

-- a key with the least supertype of its two types, where the keys are the same and there is one
abbrev pub field_joined : List ℕ × PlainType → List ℕ × PlainType → Option (List ℕ × PlainType)
field_joined f g = if pointwise nat_eq f.0 g.0 then option_map (λ t. (f.0, t)) (joined f.1 g.1) else None

-- the size is within the limit
abbrev pub size_is_within : PlainType → Bool
size_is_within t = nat_le (size_of t) most_size

-- a type that exists, unless it or a part of it is too large
abbrev pub unless_large : Option PlainType → Result PlainType TyRefusal
unless_large None = Err Differ
unless_large (Some c) = if everywhere size_is_within c then Ok c else Err TooLarge

-- the least supertype within the limits, or why there is none
abbrev pub least_supertype : PlainType → PlainType → Result PlainType TyRefusal
least_supertype a b = unless_large (joined a b)

-- two types have a least supertype, and it or a part of it is too large
pub record HaveLargeSupertype (a b : PlainType) : Type 0 where
  pub type : PlainType
  pub least : IsLeastSupertype a b type
  pub large : everywhere size_is_within type ≡ false
