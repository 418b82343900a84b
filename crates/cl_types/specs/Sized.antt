-- Types within the limits, with the keys of their tuples in rising order.
use Rattle.std.specs.Prelude.{ℕ, ◌≡◌, ◌≤◌, ◌&&◌, ◌||◌, not, nat_eq, nat_le, nat_lt, Bool, true, false, List, [], ◌∷◌, length, if◌then◌else◌, Result, Ok, Err}
use Rattle.std.specs.Ordering.{nat_cmp, is_lt}
use Rattle.std.specs.Cmp.Lexicographic.{slice_cmp, pointwise}
use Rattle.cl_types.specs.Name.{fits_pattern}
use Rattle.cl_types.specs.declared.sized.TyRefusal.{TyRefusal}
use Rattle.cl_types.specs.declared.sized.TyRefusal.TheVariants.{TooLarge, TooDeep, EmptyTuple, KeyTwice}
use Rattle.cl_types.specs.Types.{PlainType, BuffType, AsciiType, Utf8Type, ListType, TupleType, OptionalType, ResponseType, Fields, NoField, Field, size_of, depth_of, depths_of}

-- the greatest size of a type, and the greatest length that a list, buffer or string states
abbrev pub most_size : ℕ
most_size = 1048576

-- the greatest depth of a type
abbrev pub most_depth : ℕ
most_depth = 32

-- whether the test holds of a type and of each part of it
abbrev mutual
  pub everywhere : (PlainType → Bool) → PlainType → Bool
  everywhere test (ListType n t) = test (ListType n t) && everywhere test t
  everywhere test (TupleType fs) = test (TupleType fs) && everywhere_in test fs
  everywhere test (OptionalType t) = test (OptionalType t) && everywhere test t
  everywhere test (ResponseType t e) = test (ResponseType t e) && everywhere test t && everywhere test e
  everywhere test t = test t

  pub everywhere_in : (PlainType → Bool) → Fields → Bool
  everywhere_in test NoField = true
  everywhere_in test (Field k t fs) = everywhere test t && everywhere_in test fs

-- a tuple has a key
abbrev pub has_key : PlainType → Bool
has_key (TupleType NoField) = false
has_key t = true

-- whether a key is among those of a tuple
abbrev pub is_among : List ℕ → Fields → Bool
is_among k NoField = false
is_among k (Field j t fs) = pointwise nat_eq k j || is_among k fs

-- each key is none of those after it
abbrev pub differ : Fields → Bool
differ NoField = true
differ (Field k t fs) = not (is_among k fs) && differ fs

-- no key stands twice in a tuple
abbrev pub keys_differ : PlainType → Bool
keys_differ (TupleType fs) = differ fs
keys_differ t = true

-- whether a key stands before another, bytewise
abbrev pub is_below : List ℕ → List ℕ → Bool
is_below k j = is_lt (slice_cmp nat_cmp k j)

-- each key is above the one before it, the first above k
abbrev pub rise_above : List ℕ → List (List ℕ) → Bool
rise_above k [] = true
rise_above k (j ∷ js) = is_below k j && rise_above j js

-- each key is above the one before it
abbrev pub all_rise : List (List ℕ) → Bool
all_rise [] = true
all_rise (k ∷ ks) = rise_above k ks

-- the same, and there is a key
abbrev pub some_rise : List (List ℕ) → Bool
some_rise [] = false
some_rise (k ∷ ks) = rise_above k ks

-- the keys of fields, in their order
abbrev pub keys_in : Fields → List (List ℕ)
keys_in NoField = []
keys_in (Field k t fs) = k ∷ keys_in fs

abbrev pub rises_from : List ℕ → Fields → Bool
rises_from k fs = rise_above k (keys_in fs)

abbrev pub rises : Fields → Bool
rises fs = some_rise (keys_in fs)

abbrev pub fields_rise : Fields → Bool
fields_rise fs = all_rise (keys_in fs)

-- the keys of a tuple rise
abbrev pub keys_rise : PlainType → Bool
keys_rise (TupleType fs) = rises fs
keys_rise t = true

-- the pattern of a name, within 128 bytes
abbrev pub is_name : List ℕ → Bool
is_name k = fits_pattern k && nat_le (length k) 128

-- each key is a name
abbrev pub are_named : Fields → Bool
are_named NoField = true
are_named (Field k t fs) = is_name k && are_named fs

-- the keys of a tuple are names
abbrev pub keys_are_names : PlainType → Bool
keys_are_names (TupleType fs) = are_named fs
keys_are_names t = true

-- the length that a list, buffer or string states
abbrev pub length_of : PlainType → ℕ
length_of (BuffType n) = n
length_of (AsciiType n) = n
length_of (Utf8Type n) = n
length_of (ListType n t) = n
length_of t = 0

-- the size and the stated length are within the limit
abbrev pub is_within : PlainType → Bool
is_within t = nat_le (size_of t) most_size && nat_le (length_of t) most_size

-- a type whose every part keeps the limits, its keys rising
pub record IsSized (t : PlainType) : Type 0 where
  pub names : everywhere keys_are_names t ≡ true
  pub keys : everywhere keys_rise t ≡ true
  pub depth : depth_of t ≤ most_depth
  pub sizes : everywhere is_within t ≡ true

-- the same of the fields of a tuple
pub record AreSized (fs : Fields) : Type 0 where
  pub names : everywhere_in keys_are_names fs ≡ true
  pub keys : everywhere_in keys_rise fs ≡ true
  pub depth : depths_of fs ≤ most_depth
  pub sizes : everywhere_in is_within fs ≡ true

-- the types of the keys
abbrev pub types_in : Fields → List PlainType
types_in NoField = []
types_in (Field k t fs) = t ∷ types_in fs

-- the types right inside a type
abbrev pub parts : PlainType → List PlainType
parts (ListType n t) = t ∷ []
parts (TupleType fs) = types_in fs
parts (OptionalType t) = t ∷ []
parts (ResponseType t e) = t ∷ e ∷ []
parts t = []

-- a key with its type, put before the first key that isn't below it
abbrev pub placed : List ℕ → PlainType → Fields → Fields
placed k t NoField = Field k t NoField
placed k t (Field j u fs) = if is_below j k then Field j u (placed k t fs) else Field k t (Field j u fs)

-- the keys in rising order, each with its type
abbrev pub in_order : Fields → Fields
in_order NoField = NoField
in_order (Field k t fs) = placed k t (in_order fs)

-- the type with the keys of each tuple in rising order
abbrev mutual
  pub sorted : PlainType → PlainType
  sorted (ListType n t) = ListType n (sorted t)
  sorted (TupleType fs) = TupleType (in_order (sorted_parts fs))
  sorted (OptionalType t) = OptionalType (sorted t)
  sorted (ResponseType t e) = ResponseType (sorted t) (sorted e)
  sorted t = t

  pub sorted_parts : Fields → Fields
  sorted_parts NoField = NoField
  sorted_parts (Field k t fs) = Field k (sorted t) (sorted_parts fs)

-- the type with its keys in order, or the first of the four refusals that holds anywhere in it
abbrev pub made : PlainType → Result PlainType TyRefusal
made t =
    if not (everywhere has_key t) then Err EmptyTuple
    else if not (everywhere keys_differ t) then Err KeyTwice
    else if nat_lt most_depth (depth_of t) then Err TooDeep
    else if not (everywhere is_within t) then Err TooLarge
    else Ok (sorted t)
