-- The type half of the table of natives: for each native and the types of its arguments, the type that it gives, or the
-- rules that are broken.
use Rattle.std.specs.Prelude.{ℕ, ◌+◌, ◌&&◌, ◌||◌, not, nat_lt, nat_eq, Bool, true, false, List, [], ◌∷◌, length, if◌then◌else◌, Option, Some, None, Result, Ok, Err}
use Rattle.std.specs.Cmp.Lexicographic.{pointwise}
use Rattle.cl_types.specs.Types.{PlainType, NoType, IntType, UintType, BoolType, BuffType, AsciiType, Utf8Type, ListType, TupleType, OptionalType, ResponseType, Fields, NoField, Field, admits, depth_of, size_of}
use Rattle.cl_types.specs.TypeKinds.{is_int, is_uint, is_bool, is_optional, is_response, are_numbers, is_hashed, is_sequence, entry_of, resized}
use Rattle.cl_types.specs.Lattice.{least_supertype}
use Rattle.cl_types.specs.declared.sized.TyRefusal.{TyRefusal}
use Rattle.cl_types.specs.declared.sized.TyRefusal.TheVariants.{Differ}
use Rattle.cl_types.specs.Sized.{everywhere, is_within, most_depth, is_among, placed}
use Rattle.cl_sexpr.specs.declared.rule.Rule.{Rule}
use Rattle.cl_values.specs.declared.native.Native.{Native}
use Rattle.cl_values.specs.declared.native.Native.TheVariants.{Add, Subtract, Multiply, Divide, Modulo, Power, Xor, SquareRoot, Log2, ToInt, ToUint, Not, Less, AtMost, Greater, AtLeast, Same, Sha256, Sha512, Sha512Of256, MakeSome, MakeOk, MakeErr, IsSome, IsNone, IsOk, IsErr, DefaultTo, UnwrapPanic, UnwrapErrPanic, MakeList, Merge, Append, Concat, Len, ElementAt, IndexOf, ContentLess, ContentAtMost, ContentGreater, ContentAtLeast, BitAnd, BitOr, BitXor, BitNot, ShiftLeft, ShiftRight, Slice, ReplaceAt, EntryAt, PlaceOf, ToConsensusBuff}
use Rattle.cl_rules.specs.Faults.{TypeFaults, sound_types, type_rules}

-- What follows from the types of an expression's parts: what is broken, the type where nothing is, and the type that the
-- expression itself throws.
pub record Ruled : Type 0 where
  pub faults : TypeFaults
  pub type : PlainType
  pub throws : Option PlainType

-- ---- types that are made

-- the type, and nothing broken
abbrev pub fine : PlainType → Ruled
fine t = record { faults = sound_types; type = t; throws = None }

-- the type, where the arguments are of the row's kinds
abbrev pub of_kind : Bool → PlainType → Ruled
of_kind holds t = record { faults = record sound_types { argument_kind = not holds }; type = t; throws = None }

-- besides what is broken, the arguments have to be of the row's kinds
abbrev pub if_kind : Bool → Ruled → Ruled
if_kind holds r = record r { faults = record (r.faults) { argument_kind = not holds || r.faults.argument_kind } }

abbrev pub wrong_kind : Ruled
wrong_kind = of_kind false NoType

abbrev pub undetermined : Ruled
undetermined = record { faults = record sound_types { undetermined = true }; type = NoType; throws = None }

abbrev pub differing : Ruled
differing = record { faults = record sound_types { not_same = true }; type = NoType; throws = None }

abbrev pub beyond : Ruled
beyond = record { faults = record sound_types { too_large = true }; type = NoType; throws = None }

-- whether each part of a type keeps the limit on sizes and lengths
abbrev pub is_small : PlainType → Bool
is_small t = everywhere is_within t

-- a type that is made has to keep the limits
abbrev pub made : PlainType → Ruled
made t = record { faults = record sound_types { too_large = not (is_small t); too_deep = nat_lt most_depth (depth_of t) }; type = t; throws = None }

-- what is made of a least supertype, where it isn't refused
abbrev pub and_lub : Result PlainType TyRefusal → (PlainType → Ruled) → Ruled
and_lub (Ok t) make = make t
and_lub (Err Differ) make = differing
and_lub (Err refusal) make = beyond

-- the least supertype of two types
abbrev pub lubbed : PlainType → PlainType → Ruled
lubbed a b = and_lub (least_supertype a b) fine

-- of several types, taken from the left one by one: the first that is refused decides
abbrev pub lub_then : PlainType → List PlainType → (PlainType → Ruled) → Ruled
lub_then t [] make = make t
lub_then t (u ∷ us) make = and_lub (least_supertype t u) (λ c. lub_then c us make)

abbrev pub or_broken : List Rule → Ruled → Ruled → Ruled
or_broken [] broken next = next
or_broken (rule ∷ rules) broken next = broken

-- what is made of the type, where nothing is broken
abbrev pub and_ruled : Ruled → (PlainType → Ruled) → Ruled
and_ruled r make = or_broken (type_rules r.faults) r (make r.type)

-- ---- rows

-- a row of one, of two or of three arguments; at any other number nothing is asked of it
abbrev pub one : (PlainType → Ruled) → List PlainType → Ruled
one row (t ∷ []) = row t
one row ts = fine NoType

abbrev pub two : (PlainType → PlainType → Ruled) → List PlainType → Ruled
two row (t ∷ u ∷ []) = row t u
two row ts = fine NoType

abbrev pub three : (PlainType → PlainType → PlainType → Ruled) → List PlainType → Ruled
three row (t ∷ u ∷ s ∷ []) = row t u s
three row ts = fine NoType

abbrev pub first_of : List PlainType → PlainType
first_of [] = NoType
first_of (t ∷ ts) = t

-- numbers of one kind, of which the first's type is given
abbrev pub number_row : List PlainType → Ruled
number_row ts = of_kind (are_numbers ts) (first_of ts)

abbrev pub compare_row : List PlainType → Ruled
compare_row ts = of_kind (are_numbers ts) BoolType

-- numbers, buffers or strings of one kind
abbrev pub have_order : PlainType → PlainType → Bool
have_order IntType IntType = true
have_order UintType UintType = true
have_order (BuffType m) (BuffType n) = true
have_order (AsciiType m) (AsciiType n) = true
have_order (Utf8Type m) (Utf8Type n) = true
have_order t u = false

abbrev pub content_row : PlainType → PlainType → Ruled
content_row t u = of_kind (have_order t u) BoolType

abbrev pub is_number : PlainType → Bool
is_number t = is_int t || is_uint t

-- a number and a uint of places
abbrev pub shift_row : PlainType → PlainType → Ruled
shift_row t u = of_kind (is_number t && is_uint u) t

-- values with a common supertype
abbrev pub equal_row : List PlainType → Ruled
equal_row [] = fine NoType
equal_row (t ∷ ts) = lub_then t ts (λ c. fine BoolType)

-- a digest of so many bytes
abbrev pub hash_row : ℕ → PlainType → Ruled
hash_row n t = of_kind (is_hashed t) (BuffType n)

abbrev pub default_row : PlainType → PlainType → Ruled
default_row t (OptionalType u) = lubbed t u
default_row t u = wrong_kind

-- a part that is taken out has to be determined
abbrev pub part_taken : PlainType → Ruled
part_taken NoType = undetermined
part_taken t = fine t

-- the part of an optional, the ok part of a response
abbrev pub part_row : PlainType → Ruled
part_row (OptionalType t) = part_taken t
part_row (ResponseType t e) = part_taken t
part_row t = wrong_kind

-- the err part of a response
abbrev pub err_row : PlainType → Ruled
err_row (ResponseType t e) = part_taken e
err_row t = wrong_kind

-- as many entries as there are arguments, of their least supertype
abbrev pub list_row : List PlainType → Ruled
list_row ts = lub_then NoType ts (λ c. made (ListType (length ts) c))

-- the fields of the first whose keys the second hasn't, put among those of the second
abbrev pub merged : Fields → Fields → Fields
merged NoField gs = gs
merged (Field k t fs) gs = if is_among k gs then merged fs gs else placed k t (merged fs gs)

abbrev pub merge_row : PlainType → PlainType → Ruled
merge_row (TupleType fs) (TupleType gs) = made (TupleType (merged fs gs))
merge_row t u = wrong_kind

abbrev pub append_row : PlainType → PlainType → Ruled
append_row (ListType n t) u = and_lub (least_supertype t u) (λ c. made (ListType (n + 1) c))
append_row t u = wrong_kind

-- two sequences of one kind
abbrev pub concat_row : PlainType → PlainType → Ruled
concat_row (ListType m t) (ListType n u) = and_lub (least_supertype t u) (λ c. made (ListType (m + n) c))
concat_row (BuffType m) (BuffType n) = made (BuffType (m + n))
concat_row (AsciiType m) (AsciiType n) = made (AsciiType (m + n))
concat_row (Utf8Type m) (Utf8Type n) = made (Utf8Type (m + n))
concat_row t u = wrong_kind

abbrev pub element_row : PlainType → PlainType → Ruled
element_row s i = if_kind (is_sequence s && is_uint i) (made (OptionalType (entry_of s)))

-- an item that the entry type admits
abbrev pub index_row : PlainType → PlainType → Ruled
index_row s item = of_kind (is_sequence s && admits (entry_of s) item) (OptionalType UintType)

-- a part of a sequence between two places
abbrev pub slice_row : PlainType → PlainType → PlainType → Ruled
slice_row s i j = if_kind (is_sequence s && is_uint i && is_uint j) (made (OptionalType s))

-- a sequence with an item in a place, which the entry type admits
abbrev pub replace_row : PlainType → PlainType → PlainType → Ruled
replace_row s i item = if_kind (is_sequence s && is_uint i && admits (entry_of s) item) (made (OptionalType s))

-- the wire form, which is no longer than the size of the type
abbrev pub consensus_row : PlainType → Ruled
consensus_row t = made (OptionalType (BuffType (size_of t)))

-- ---- the table

unfoldable pub native_type : Native → List PlainType → Ruled
native_type Add ts = number_row ts
native_type Subtract ts = number_row ts
native_type Multiply ts = number_row ts
native_type Divide ts = number_row ts
native_type Modulo ts = number_row ts
native_type Power ts = number_row ts
native_type Xor ts = number_row ts
native_type SquareRoot ts = number_row ts
native_type Log2 ts = number_row ts
native_type ToInt ts = one (λ t. of_kind (is_uint t) IntType) ts
native_type ToUint ts = one (λ t. of_kind (is_int t) UintType) ts
native_type Not ts = one (λ t. of_kind (is_bool t) BoolType) ts
native_type Less ts = compare_row ts
native_type AtMost ts = compare_row ts
native_type Greater ts = compare_row ts
native_type AtLeast ts = compare_row ts
native_type Same ts = equal_row ts
native_type Sha256 ts = one (hash_row 32) ts
native_type Sha512 ts = one (hash_row 64) ts
native_type Sha512Of256 ts = one (hash_row 32) ts
native_type MakeSome ts = one (λ t. made (OptionalType t)) ts
native_type MakeOk ts = one (λ t. made (ResponseType t NoType)) ts
native_type MakeErr ts = one (λ t. made (ResponseType NoType t)) ts
native_type IsSome ts = one (λ t. of_kind (is_optional t) BoolType) ts
native_type IsNone ts = one (λ t. of_kind (is_optional t) BoolType) ts
native_type IsOk ts = one (λ t. of_kind (is_response t) BoolType) ts
native_type IsErr ts = one (λ t. of_kind (is_response t) BoolType) ts
native_type DefaultTo ts = two default_row ts
native_type UnwrapPanic ts = one part_row ts
native_type UnwrapErrPanic ts = one err_row ts
native_type MakeList ts = list_row ts
native_type Merge ts = two merge_row ts
native_type Append ts = two append_row ts
native_type Concat ts = two concat_row ts
native_type Len ts = one (λ t. of_kind (is_sequence t) UintType) ts
native_type ElementAt ts = two element_row ts
native_type IndexOf ts = two index_row ts
native_type ContentLess ts = two content_row ts
native_type ContentAtMost ts = two content_row ts
native_type ContentGreater ts = two content_row ts
native_type ContentAtLeast ts = two content_row ts
native_type BitAnd ts = number_row ts
native_type BitOr ts = number_row ts
native_type BitXor ts = number_row ts
native_type BitNot ts = number_row ts
native_type ShiftLeft ts = two shift_row ts
native_type ShiftRight ts = two shift_row ts
native_type Slice ts = three slice_row ts
native_type ReplaceAt ts = three replace_row ts
native_type EntryAt ts = two element_row ts
native_type PlaceOf ts = two index_row ts
native_type ToConsensusBuff ts = one consensus_row ts

-- ---- rows with a key or a length that isn't evaluated

-- the type under a key
abbrev pub type_of_key : List ℕ → Fields → Option PlainType
type_of_key k NoField = None
type_of_key k (Field j t fs) = if pointwise nat_eq k j then Some t else type_of_key k fs

abbrev pub under_key : Option PlainType → (PlainType → Ruled) → Ruled
under_key None make = record { faults = record sound_types { no_such_key = true }; type = NoType; throws = None }
under_key (Some t) make = make t

-- get: the part of a tuple, or the optional part of an optional tuple
abbrev pub get_row : List ℕ → PlainType → Ruled
get_row k (TupleType fs) = under_key (type_of_key k fs) fine
get_row k (OptionalType (TupleType fs)) = under_key (type_of_key k fs) (λ t. made (OptionalType t))
get_row k t = wrong_kind

-- as-max-len?: an optional of the sequence's type with this greatest length
abbrev pub max_len_row : ℕ → PlainType → Ruled
max_len_row m s = if_kind (is_sequence s) (made (OptionalType (resized m s)))
