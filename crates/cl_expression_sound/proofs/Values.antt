-- What a value of a type is.
use Rattle.std.proofs.Common.{◌≡◌, ℕ, Bool, true, false, refl, arith}
use Rattle.cl_types.specs.Types.{PlainType, UintType, BoolType, PrincipalType, OptionalType, ResponseType}
use Rattle.cl_c32.specs.declared.principal.Principal.{Principal}
use Rattle.cl_values.specs.Tree.{Tree as Val, UintV, BoolV, PrincipalV, NoneV, SomeV, ResponseV}
use Rattle.cl_values.specs.Inhabits.{inhabits}
use Rattle.cl_values.proofs.Parts.{some_part, response_part}
use Rattle.cl_values.specs.Typed.{IsOf}
use Rattle.cl_types.specs.TypeKinds.{is_bool, is_uint, is_principal}

bool_of : (v : Val) → inhabits v BoolType ≡ true → (b : Bool) × (v ≡ BoolV b)
bool_of (BoolV b) h = (b, refl)
bool_of (ResponseV true v) h = absurd cc
bool_of (ResponseV false v) h = absurd cc
bool_of v h = absurd cc

pub truth_of : (v : Val) (t : PlainType) → is_bool t ≡ true → IsOf v t → (b : Bool) × (v ≡ BoolV b)
truth_of v BoolType h i = bool_of v i.typed
truth_of v t h i = absurd cc

uint_of : (v : Val) → inhabits v UintType ≡ true → (n : ℕ) × (v ≡ UintV n)
uint_of (UintV n) h = (n, refl)
uint_of (ResponseV true v) h = absurd cc
uint_of (ResponseV false v) h = absurd cc
uint_of v h = absurd cc

pub number_of : (v : Val) (t : PlainType) → is_uint t ≡ true → IsOf v t → (n : ℕ) × (v ≡ UintV n)
number_of v UintType h i = uint_of v i.typed
number_of v t h i = absurd cc

principal_in : (v : Val) → inhabits v PrincipalType ≡ true → (p : Principal) × (v ≡ PrincipalV p)
principal_in (PrincipalV p) h = (p, refl)
principal_in (ResponseV true v) h = absurd cc
principal_in (ResponseV false v) h = absurd cc
principal_in v h = absurd cc

pub principal_of : (v : Val) (t : PlainType) → is_principal t ≡ true → IsOf v t → (p : Principal) × (v ≡ PrincipalV p)
principal_of v PrincipalType h i = principal_in v i.typed
principal_of v t h i = absurd cc

-- none, or some with a part
pub data IsOptional (v : Val) (t : PlainType) : Type 0 where
  is_none : v ≡ NoneV → IsOptional v t
  is_some_value : (w : Val) → v ≡ SomeV w → IsOf w t → IsOptional v t

pub optional_of : (v : Val) (t : PlainType) → IsOf v (OptionalType t) → IsOptional v t
optional_of NoneV t i = is_none refl
optional_of (SomeV w) t i = is_some_value w refl (record { valid = some_part w i.valid; typed = i.typed })
optional_of (ResponseV true v) t i = let h = i.typed in absurd cc
optional_of (ResponseV false v) t i = let h = i.typed in absurd cc
optional_of v t i = let h = i.typed in absurd cc

-- ok or err with a part
pub data IsResponse (v : Val) (t e : PlainType) : Type 0 where
  is_ok : (w : Val) → v ≡ ResponseV true w → IsOf w t → IsResponse v t e
  is_err : (w : Val) → v ≡ ResponseV false w → IsOf w e → IsResponse v t e

pub response_of : (v : Val) (t e : PlainType) → IsOf v (ResponseType t e) → IsResponse v t e
response_of (ResponseV true w) t e i = is_ok w refl (record { valid = response_part true w i.valid; typed = i.typed })
response_of (ResponseV false w) t e i = is_err w refl (record { valid = response_part false w i.valid; typed = i.typed })
response_of v t e i = let h = i.typed in absurd cc

-- ---- values that are made

pub true_typed : (b : Bool) → IsOf (BoolV b) BoolType
true_typed b = record { valid = record { ranges = tt; keys = refl; texts = refl; depth = omega arith; size = omega arith }; typed = refl }

pub none_typed : (t : PlainType) → IsOf NoneV (OptionalType t)
none_typed t = record { valid = record { ranges = tt; keys = refl; texts = refl; depth = omega arith; size = omega arith }; typed = refl }
