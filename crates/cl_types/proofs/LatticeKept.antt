-- What the least supertype keeps of the two types: the depth, names, the order of keys, lengths within the limit.
use Rattle.std.proofs.Common.{◌≡◌, ℕ, ◌≤◌, Bool, true, false, ◌&&◌, max, nat_eq, nat_le, List, ◌∷◌, Option, Some, None, option_map, if◌then◌else◌, refl, sym, ap, ◌∙◌, subst, arith}
use Rattle.std.specs.Cmp.Lexicographic.{pointwise}
use Rattle.cl_types.specs.Types.{PlainType, NoType, IntType, UintType, BoolType, PrincipalType, BuffType, AsciiType, Utf8Type, ListType, TupleType, OptionalType, ResponseType, Fields, NoField, Field, IsLeastSupertype, depth_of, depths_of}
use Rattle.cl_types.specs.Sized.{most_size, everywhere, everywhere_in, keys_in, some_rise, rises, keys_rise, are_named, keys_are_names, length_of, is_within, IsSized}
use Rattle.cl_types.specs.Lattice.{both, joined, joined_fields, size_is_within}
use Rattle.cl_types.proofs.Lattice.{and_left, and_right, and_both, le_max}
use Rattle.cl_types.proofs.LatticeLeast.{least_joined}

-- the depth

abbrev Deep : PlainType → PlainType → Option PlainType → Type 0
Deep a b (Some c) = depth_of c ≡ max (depth_of a) (depth_of b)
Deep a b None = Unit {0}

abbrev DeepIn : Fields → Fields → Option Fields → Type 0
DeepIn fs gs (Some hs) = depths_of hs ≡ max (depths_of fs) (depths_of gs)
DeepIn fs gs None = Unit {0}

list_deep : (m n : ℕ) (a b : PlainType) (o : Option PlainType) → Deep a b o → Deep (ListType m a) (ListType n b) (option_map (ListType (max m n)) o)
list_deep m n a b (Some c) h = omega (arith, h)
list_deep m n a b None h = tt

tuple_deep : (fs gs : Fields) (o : Option Fields) → DeepIn fs gs o → Deep (TupleType fs) (TupleType gs) (option_map TupleType o)
tuple_deep fs gs (Some hs) h = omega (arith, h)
tuple_deep fs gs None h = tt

optional_deep : (a b : PlainType) (o : Option PlainType) → Deep a b o → Deep (OptionalType a) (OptionalType b) (option_map OptionalType o)
optional_deep a b (Some c) h = omega (arith, h)
optional_deep a b None h = tt

response_deep : (a b c d : PlainType) (o p : Option PlainType) → Deep a b o → Deep c d p → Deep (ResponseType a c) (ResponseType b d) (both ResponseType o p)
response_deep a b c d (Some x) (Some y) h k = omega (arith, h, k)
response_deep a b c d (Some x) None h k = tt
response_deep a b c d None p h k = tt

field_deep : (j k : List ℕ) (a b : PlainType) (fs gs : Fields) (same : Bool) (o : Option PlainType) (p : Option Fields) → Deep a b o → DeepIn fs gs p → DeepIn (Field j a fs) (Field k b gs) (if same then both (Field j) o p else None)
field_deep j k a b fs gs true (Some x) (Some y) h g = omega (arith, h, g)
field_deep j k a b fs gs true (Some x) None h g = tt
field_deep j k a b fs gs true None p h g = tt
field_deep j k a b fs gs false o p h g = tt

mutual
  deep : (a b : PlainType) → Deep a b (joined a b)
  deep a NoType = omega arith
  deep NoType b = omega arith
  deep IntType IntType = omega arith
  deep UintType UintType = omega arith
  deep BoolType BoolType = omega arith
  deep PrincipalType PrincipalType = omega arith
  deep (BuffType m) (BuffType n) = omega arith
  deep (AsciiType m) (AsciiType n) = omega arith
  deep (Utf8Type m) (Utf8Type n) = omega arith
  deep (ListType m a) (ListType n b) = list_deep m n a b (joined a b) (deep a b)
  deep (TupleType fs) (TupleType gs) = tuple_deep fs gs (joined_fields fs gs) (deep_in fs gs)
  deep (OptionalType a) (OptionalType b) = optional_deep a b (joined a b) (deep a b)
  deep (ResponseType a c) (ResponseType b d) = response_deep a b c d (joined a b) (joined c d) (deep a b) (deep c d)
  deep a b = tt

  deep_in : (fs gs : Fields) → DeepIn fs gs (joined_fields fs gs)
  deep_in NoField NoField = omega arith
  deep_in (Field j a fs) (Field k b gs) = field_deep j k a b fs gs (pointwise nat_eq j k) (joined a b) (joined_fields fs gs) (deep a b) (deep_in fs gs)
  deep_in NoField (Field k b gs) = tt
  deep_in (Field j a fs) NoField = tt

pub joined_deep : (a b c : PlainType) → joined a b ≡ Some c → depth_of c ≡ max (depth_of a) (depth_of b)
joined_deep a b c e = subst (Deep a b) e (deep a b)

pub least_deep : (a b c : PlainType) → IsLeastSupertype a b c → depth_of c ≡ max (depth_of a) (depth_of b)
least_deep a b c l = joined_deep a b c (least_joined a b c l)

-- the keys are those of either

abbrev SameKeys : Fields → Option Fields → Type 0
SameKeys fs (Some hs) = keys_in fs ≡ keys_in hs
SameKeys fs None = Unit {0}

field_keys : (j : List ℕ) (a : PlainType) (fs : Fields) (same : Bool) (o : Option PlainType) (p : Option Fields) → SameKeys fs p → SameKeys (Field j a fs) (if same then both (Field j) o p else None)
field_keys j a fs true (Some x) (Some y) h = ap (λ (ks : List (List ℕ)). j ∷ ks) h
field_keys j a fs true (Some x) None h = tt
field_keys j a fs true None p h = tt
field_keys j a fs false o p h = tt

same_keys : (fs gs : Fields) → SameKeys fs (joined_fields fs gs)
same_keys NoField NoField = refl
same_keys (Field j a fs) (Field k b gs) = field_keys j a fs (pointwise nat_eq j k) (joined a b) (joined_fields fs gs) (same_keys fs gs)
same_keys NoField (Field k b gs) = tt
same_keys (Field j a fs) NoField = tt

-- a test that the join of two types passes where both do
record IsKept (test : PlainType → Bool) : Type 0 where
  buff : (m n : ℕ) → test (BuffType m) ≡ true → test (BuffType n) ≡ true → test (BuffType (max m n)) ≡ true
  ascii : (m n : ℕ) → test (AsciiType m) ≡ true → test (AsciiType n) ≡ true → test (AsciiType (max m n)) ≡ true
  utf8 : (m n : ℕ) → test (Utf8Type m) ≡ true → test (Utf8Type n) ≡ true → test (Utf8Type (max m n)) ≡ true
  list : (m n : ℕ) (a b c : PlainType) → test (ListType m a) ≡ true → test (ListType n b) ≡ true → test (ListType (max m n) c) ≡ true
  tuple : (fs hs : Fields) → keys_in fs ≡ keys_in hs → test (TupleType fs) ≡ true → test (TupleType hs) ≡ true
  optional : (a b : PlainType) → test (OptionalType a) ≡ true → test (OptionalType b) ≡ true
  response : (a b c d : PlainType) → test (ResponseType a b) ≡ true → test (ResponseType c d) ≡ true

abbrev Kept : (PlainType → Bool) → PlainType → PlainType → Option PlainType → Type 0
Kept test a b (Some c) = everywhere test a ≡ true → everywhere test b ≡ true → everywhere test c ≡ true
Kept test a b None = Unit {0}

abbrev KeptIn : (PlainType → Bool) → Fields → Fields → Option Fields → Type 0
KeptIn test fs gs (Some hs) = everywhere_in test fs ≡ true → everywhere_in test gs ≡ true → everywhere_in test hs ≡ true
KeptIn test fs gs None = Unit {0}

list_kept : (test : PlainType → Bool) → IsKept test → (m n : ℕ) (a b : PlainType) (o : Option PlainType) → Kept test a b o → Kept test (ListType m a) (ListType n b) (option_map (ListType (max m n)) o)
list_kept test is m n a b (Some c) l = λ h k. and_both _ _ (is.list m n a b c (and_left _ _ h) (and_left _ _ k)) (l (and_right _ _ h) (and_right _ _ k))
list_kept test is m n a b None l = tt

tuple_kept : (test : PlainType → Bool) → IsKept test → (fs gs : Fields) (o : Option Fields) → SameKeys fs o → KeptIn test fs gs o → Kept test (TupleType fs) (TupleType gs) (option_map TupleType o)
tuple_kept test is fs gs (Some hs) s l = λ h k. and_both _ _ (is.tuple fs hs s (and_left _ _ h)) (l (and_right _ _ h) (and_right _ _ k))
tuple_kept test is fs gs None s l = tt

optional_kept : (test : PlainType → Bool) → IsKept test → (a b : PlainType) (o : Option PlainType) → Kept test a b o → Kept test (OptionalType a) (OptionalType b) (option_map OptionalType o)
optional_kept test is a b (Some c) l = λ h k. and_both _ _ (is.optional a c (and_left _ _ h)) (l (and_right _ _ h) (and_right _ _ k))
optional_kept test is a b None l = tt

response_kept : (test : PlainType → Bool) → IsKept test → (a b c d : PlainType) (o p : Option PlainType) → Kept test a b o → Kept test c d p → Kept test (ResponseType a c) (ResponseType b d) (both ResponseType o p)
response_kept test is a b c d (Some x) (Some y) l m = λ h k.
    let here : (test (ResponseType a c) && everywhere test a) ≡ true = and_left _ (everywhere test c) h in
    let there : (test (ResponseType b d) && everywhere test b) ≡ true = and_left _ (everywhere test d) k in
    and_both _ _ (and_both _ _ (is.response a c x y (and_left _ _ here)) (l (and_right _ _ here) (and_right _ _ there))) (m (and_right _ (everywhere test c) h) (and_right _ (everywhere test d) k))
response_kept test is a b c d (Some x) None l m = tt
response_kept test is a b c d None p l m = tt

field_kept : (test : PlainType → Bool) (j k : List ℕ) (a b : PlainType) (fs gs : Fields) (same : Bool) (o : Option PlainType) (p : Option Fields) → Kept test a b o → KeptIn test fs gs p → KeptIn test (Field j a fs) (Field k b gs) (if same then both (Field j) o p else None)
field_kept test j k a b fs gs true (Some x) (Some y) l m = λ h g. and_both _ _ (l (and_left _ _ h) (and_left _ _ g)) (m (and_right _ _ h) (and_right _ _ g))
field_kept test j k a b fs gs true (Some x) None l m = tt
field_kept test j k a b fs gs true None p l m = tt
field_kept test j k a b fs gs false o p l m = tt

mutual
  kept : (test : PlainType → Bool) → IsKept test → (a b : PlainType) → Kept test a b (joined a b)
  kept test is a NoType = λ h k. h
  kept test is NoType b = λ h k. k
  kept test is IntType IntType = λ h k. h
  kept test is UintType UintType = λ h k. h
  kept test is BoolType BoolType = λ h k. h
  kept test is PrincipalType PrincipalType = λ h k. h
  kept test is (BuffType m) (BuffType n) = is.buff m n
  kept test is (AsciiType m) (AsciiType n) = is.ascii m n
  kept test is (Utf8Type m) (Utf8Type n) = is.utf8 m n
  kept test is (ListType m a) (ListType n b) = list_kept test is m n a b (joined a b) (kept test is a b)
  kept test is (TupleType fs) (TupleType gs) = tuple_kept test is fs gs (joined_fields fs gs) (same_keys fs gs) (kept_in test is fs gs)
  kept test is (OptionalType a) (OptionalType b) = optional_kept test is a b (joined a b) (kept test is a b)
  kept test is (ResponseType a c) (ResponseType b d) = response_kept test is a b c d (joined a b) (joined c d) (kept test is a b) (kept test is c d)
  kept test is a b = tt

  kept_in : (test : PlainType → Bool) → IsKept test → (fs gs : Fields) → KeptIn test fs gs (joined_fields fs gs)
  kept_in test is NoField NoField = λ h k. h
  kept_in test is (Field j a fs) (Field k b gs) = field_kept test j k a b fs gs (pointwise nat_eq j k) (joined a b) (joined_fields fs gs) (kept test is a b) (kept_in test is fs gs)
  kept_in test is NoField (Field k b gs) = tt
  kept_in test is (Field j a fs) NoField = tt

kept_by : (test : PlainType → Bool) → IsKept test → (a b c : PlainType) → joined a b ≡ Some c → everywhere test a ≡ true → everywhere test b ≡ true → everywhere test c ≡ true
kept_by test is a b c e = subst (Kept test a b) e (kept test is a b)

-- names and their order

named_alike : (fs hs : Fields) → keys_in fs ≡ keys_in hs → are_named fs ≡ are_named hs
named_alike NoField NoField e = refl
named_alike NoField (Field k t hs) e = absurd cc
named_alike (Field j t fs) NoField e = absurd cc
named_alike (Field j t fs) (Field k u hs) e =
    let one : j ≡ k = cc in
    let two : are_named fs ≡ are_named hs = named_alike fs hs cc in
    cc

rising_alike : (fs hs : Fields) → keys_in fs ≡ keys_in hs → rises fs ≡ rises hs
rising_alike fs hs e = ap some_rise e

names_kept : IsKept keys_are_names
names_kept = record {
  buff = λ m n h k. refl;
  ascii = λ m n h k. refl;
  utf8 = λ m n h k. refl;
  list = λ m n a b c h k. refl;
  tuple = λ fs hs e h. sym (named_alike fs hs e) ∙ h;
  optional = λ a b h. refl;
  response = λ a b c d h. refl;
}

order_kept : IsKept keys_rise
order_kept = record {
  buff = λ m n h k. refl;
  ascii = λ m n h k. refl;
  utf8 = λ m n h k. refl;
  list = λ m n a b c h k. refl;
  tuple = λ fs hs e h. sym (rising_alike fs hs e) ∙ h;
  optional = λ a b h. refl;
  response = λ a b c d h. refl;
}

-- lengths within the limit

abbrev length_is_within : PlainType → Bool
length_is_within t = nat_le (length_of t) most_size

lengths_kept : IsKept length_is_within
lengths_kept = record {
  buff = λ m n h k. le_max most_size m n h k;
  ascii = λ m n h k. le_max most_size m n h k;
  utf8 = λ m n h k. le_max most_size m n h k;
  list = λ m n a b c h k. le_max most_size m n h k;
  tuple = λ fs hs e h. refl;
  optional = λ a b h. refl;
  response = λ a b c d h. refl;
}

and_true : (a b : Bool) → b ≡ true → (a && b) ≡ a
and_true true b h = h
and_true false b h = refl

and_alike : (a b c d : Bool) → a ≡ c → b ≡ d → (a && b) ≡ (c && d)
and_alike a b c d p q = cc

mutual
  lengths_within : (t : PlainType) → everywhere is_within t ≡ true → everywhere length_is_within t ≡ true
  lengths_within NoType h = refl
  lengths_within IntType h = refl
  lengths_within UintType h = refl
  lengths_within BoolType h = refl
  lengths_within PrincipalType h = refl
  lengths_within (BuffType n) h = and_right _ _ h
  lengths_within (AsciiType n) h = and_right _ _ h
  lengths_within (Utf8Type n) h = and_right _ _ h
  lengths_within (ListType n t) h = and_both _ _ (and_right (size_is_within (ListType n t)) (length_is_within (ListType n t)) (and_left _ (everywhere is_within t) h)) (lengths_within t (and_right _ _ h))
  lengths_within (TupleType fs) h = lengths_within_in fs (and_right (is_within (TupleType fs)) (everywhere_in is_within fs) h)
  lengths_within (OptionalType t) h = lengths_within t (and_right (is_within (OptionalType t)) (everywhere is_within t) h)
  lengths_within (ResponseType t e) h =
      let one : (is_within (ResponseType t e) && everywhere is_within t) ≡ true = and_left _ (everywhere is_within e) h in
      and_both _ _ (lengths_within t (and_right (is_within (ResponseType t e)) (everywhere is_within t) one)) (lengths_within e (and_right _ (everywhere is_within e) h))

  lengths_within_in : (fs : Fields) → everywhere_in is_within fs ≡ true → everywhere_in length_is_within fs ≡ true
  lengths_within_in NoField h = refl
  lengths_within_in (Field k t fs) h = and_both _ _ (lengths_within t (and_left _ _ h)) (lengths_within_in fs (and_right _ _ h))

mutual
  -- where the lengths are within the limit, the sizes decide
  sizes_decide : (t : PlainType) → everywhere length_is_within t ≡ true → everywhere is_within t ≡ everywhere size_is_within t
  sizes_decide NoType h = refl
  sizes_decide IntType h = refl
  sizes_decide UintType h = refl
  sizes_decide BoolType h = refl
  sizes_decide PrincipalType h = refl
  sizes_decide (BuffType n) h = and_true _ _ h
  sizes_decide (AsciiType n) h = and_true _ _ h
  sizes_decide (Utf8Type n) h = and_true _ _ h
  sizes_decide (ListType n t) h =
      and_alike (is_within (ListType n t)) (everywhere is_within t) (size_is_within (ListType n t)) (everywhere size_is_within t)
      (and_true (size_is_within (ListType n t)) (length_is_within (ListType n t)) (and_left _ (everywhere length_is_within t) h))
      (sizes_decide t (and_right (length_is_within (ListType n t)) _ h))
  sizes_decide (TupleType fs) h =
      and_alike (is_within (TupleType fs)) (everywhere_in is_within fs) (size_is_within (TupleType fs)) (everywhere_in size_is_within fs)
      (and_true (size_is_within (TupleType fs)) true refl) (sizes_decide_in fs h)
  sizes_decide (OptionalType t) h =
      and_alike (is_within (OptionalType t)) (everywhere is_within t) (size_is_within (OptionalType t)) (everywhere size_is_within t)
      (and_true (size_is_within (OptionalType t)) true refl) (sizes_decide t h)
  sizes_decide (ResponseType t e) h =
      and_alike (is_within (ResponseType t e) && everywhere is_within t) (everywhere is_within e) (size_is_within (ResponseType t e) && everywhere size_is_within t) (everywhere size_is_within e)
      (and_alike (is_within (ResponseType t e)) (everywhere is_within t) (size_is_within (ResponseType t e)) (everywhere size_is_within t)
      (and_true (size_is_within (ResponseType t e)) true refl) (sizes_decide t (and_left _ (everywhere length_is_within e) h)))
      (sizes_decide e (and_right (everywhere length_is_within t) _ h))

  sizes_decide_in : (fs : Fields) → everywhere_in length_is_within fs ≡ true → everywhere_in is_within fs ≡ everywhere_in size_is_within fs
  sizes_decide_in NoField h = refl
  sizes_decide_in (Field k t fs) h =
      and_alike (everywhere is_within t) (everywhere_in is_within fs) (everywhere size_is_within t) (everywhere_in size_is_within fs)
      (sizes_decide t (and_left _ (everywhere_in length_is_within fs) h)) (sizes_decide_in fs (and_right (everywhere length_is_within t) _ h))

-- what two types within the limits join to is within them but for sizes
pub record IsNearlySized (t : PlainType) : Type 0 where
  pub names : everywhere keys_are_names t ≡ true
  pub keys : everywhere keys_rise t ≡ true
  pub depth : depth_of t ≤ 32
  pub sizes : everywhere is_within t ≡ everywhere size_is_within t

pub joined_nearly : (a b c : PlainType) → joined a b ≡ Some c → IsSized a → IsSized b → IsNearlySized c
joined_nearly a b c e h k = record {
  names = kept_by keys_are_names names_kept a b c e h.names k.names;
  keys = kept_by keys_rise order_kept a b c e h.keys k.keys;
  depth = omega (arith, joined_deep a b c e, h.depth, k.depth);
  sizes = sizes_decide c (kept_by length_is_within lengths_kept a b c e (lengths_within a h.sizes) (lengths_within b k.sizes));
}

pub joined_sized : (a b c : PlainType) → joined a b ≡ Some c → IsSized a → IsSized b → everywhere size_is_within c ≡ true → IsSized c
joined_sized a b c e h k w =
    let n : IsNearlySized c = joined_nearly a b c e h k in
    record { names = n.names; keys = n.keys; depth = n.depth; sizes = n.sizes ∙ w }

pub sized_within : (t : PlainType) → IsSized t → everywhere size_is_within t ≡ true
sized_within t h = sym (sizes_decide t (lengths_within t h.sizes)) ∙ h.sizes
