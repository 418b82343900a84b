-- The definitions compute: which texts and tuples make values, the order of values, and which values inhabit which types.
use Rattle.std.proofs.Common.{refl, Ordering, Less, Greater}
use Rattle.std.specs.Prelude.{◌≡◌, ℕ, ◌-◌, ◌^◌, Bool, true, false, List, [], ◌∷◌, map, replicate, codes, pos, negsuc, Ok, Err}
use Rattle.std.specs.Ordering.{nat_cmp}
use Rattle.std.specs.Cmp.Lexicographic.{slice_cmp}
use Rattle.cl_types.specs.Types.{PlainType, NoType, IntType, UintType, BoolType, PrincipalType, BuffType, AsciiType, Utf8Type, ListType, TupleType, OptionalType, ResponseType, fields}
use Rattle.cl_values.specs.declared.refusal.ValueRefusal.TheVariants.{BadTuple, BadText}
use Rattle.cl_values.specs.Tree.{Tree, IntV, UintV, BoolV, BuffV, AsciiV, Utf8V, ListV, TupleV, NoneV, SomeV, ResponseV, NoItem, items_of, entries_of}
use Rattle.cl_values.specs.Wire.{wire, size_of}
use Rattle.cl_values.specs.Valid.{made}
use Rattle.cl_values.specs.Inhabits.{inhabits}

-- a string of one byte
abbrev byte : ℕ → Tree
byte c = AsciiV (c ∷ [])

bytes_of_texts : map (λ c. made (byte c)) (0 ∷ 9 ∷ 10 ∷ 13 ∷ 32 ∷ 126 ∷ []) ≡ map (λ c. Ok (byte c)) (0 ∷ 9 ∷ 10 ∷ 13 ∷ 32 ∷ 126 ∷ [])
bytes_of_texts = refl

bytes_of_no_text : map (λ c. made (byte c)) (1 ∷ 8 ∷ 11 ∷ 12 ∷ 14 ∷ 31 ∷ 127 ∷ 255 ∷ []) ≡ replicate 8 (Err BadText)
bytes_of_no_text = refl

abbrev two_bools : Tree
two_bools = TupleV (entries_of ((codes "a", BoolV true) ∷ (codes "b", BoolV false) ∷ []))

tuples : map made (TupleV (entries_of []) ∷ TupleV (entries_of ((codes "b", BoolV true) ∷ (codes "a", BoolV false) ∷ [])) ∷ TupleV (entries_of ((codes "a", BoolV true) ∷ (codes "a", BoolV false) ∷ [])) ∷ two_bools ∷ []) ≡
    Err BadTuple ∷ Err BadTuple ∷ Err BadTuple ∷ Ok two_bools ∷ []
tuples = refl

size_of_a_tuple : size_of two_bools ≡ 11
size_of_a_tuple = refl

abbrev compared : Tree × Tree → Ordering × Ordering
compared pair = (slice_cmp nat_cmp (wire pair.0) (wire pair.1), slice_cmp nat_cmp (wire pair.1) (wire pair.0))

abbrev least : Tree
least = IntV (negsuc (2 ^ 127 - 1))

abbrev in_order : List (Tree × Tree)
in_order =
    (IntV (pos 1), least)
    ∷ (least, IntV (negsuc 0))
    ∷ (IntV (negsuc 0), UintV 1)
    ∷ (UintV (2 ^ 128 - 1), BuffV [])
    ∷ (BoolV true, BoolV false)
    ∷ (BuffV (codes "b"), BuffV (codes "aa"))
    ∷ (ListV NoItem, AsciiV (codes "a"))
    ∷ (Utf8V (122 ∷ []), Utf8V (233 ∷ []))
    ∷ []

-- computed by another program from the forms of SIP-005
order : map compared in_order ≡ replicate 8 (Less, Greater)
unfolding lib.Utf8.encode
order = refl

-- a value with a type
abbrev is_of : Tree × PlainType → Bool
is_of pair = inhabits pair.0 pair.1

abbrev one : Tree
one = IntV (pos 1)

abbrev two_of : Tree → Tree → Tree
two_of a b = ListV (items_of (a ∷ b ∷ []))

-- a race horse and an e with an accent
abbrev characters : Tree
characters = Utf8V (128014 ∷ 233 ∷ [])

abbrev a_int : PlainType
a_int = TupleType (fields ((codes "a", IntType) ∷ []))

-- lengths are counted in bytes, or in characters
values_of_their_types : map is_of (
    (BuffV (codes "abc"), BuffType 3)
    ∷ (AsciiV (codes "abc"), AsciiType 3)
    ∷ (characters, Utf8Type 2)
    ∷ (one, IntType)
    ∷ (UintV 1, UintType)
    ∷ (BoolV false, BoolType)
    ∷ (ListV NoItem, ListType 0 NoType)
    ∷ (two_of one (IntV (pos 2)), ListType 2 IntType)
    ∷ (NoneV, OptionalType NoType)
    ∷ (SomeV one, OptionalType IntType)
    ∷ (ResponseV true one, ResponseType IntType NoType)
    ∷ (ResponseV false (UintV 1), ResponseType IntType UintType)
    ∷ (TupleV (entries_of ((codes "a", one) ∷ [])), a_int)
    ∷ []) ≡ replicate 13 true
values_of_their_types = refl

values_of_no_such_type : map is_of (
    (BuffV (codes "abc"), BuffType 2)
    ∷ (AsciiV (codes "abc"), AsciiType 2)
    ∷ (AsciiV (codes "abc"), BuffType 3)
    ∷ (characters, Utf8Type 1)
    ∷ (one, UintType)
    ∷ (BoolV false, PrincipalType)
    ∷ (one, NoType)
    ∷ (two_of one (IntV (pos 2)), ListType 1 IntType)
    ∷ (two_of one (UintV 2), ListType 2 IntType)
    ∷ (SomeV one, OptionalType NoType)
    ∷ (ResponseV false one, ResponseType IntType NoType)
    ∷ (TupleV (entries_of ((codes "b", one) ∷ [])), a_int)
    ∷ (TupleV (entries_of ((codes "a", one) ∷ (codes "b", one) ∷ [])), a_int)
    ∷ []) ≡ replicate 13 false
values_of_no_such_type = refl
