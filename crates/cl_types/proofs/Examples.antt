-- The definitions compute: names, which types admit which, least supertypes, and the types that are made, with their sizes.
use Rattle.std.proofs.Common.{refl, zero, suc, Less}
use Rattle.std.specs.Prelude.{◌≡◌, ℕ, true, false, List, [], ◌∷◌, map, replicate, codes, Result, Ok, Err}
use Rattle.std.specs.List.{filter}
use Rattle.std.specs.Ordering.{nat_cmp}
use Rattle.std.specs.Result.{result_map_both}
use Rattle.std.specs.Cmp.Lexicographic.{slice_cmp}
use Rattle.cl_types.specs.declared.sized.TyRefusal.{TyRefusal}
use Rattle.cl_types.specs.declared.sized.TyRefusal.TheVariants.{Differ, TooLarge, TooDeep, EmptyTuple, KeyTwice}
use Rattle.cl_types.specs.Types.{PlainType, NoType, IntType, UintType, BoolType, PrincipalType, BuffType, AsciiType, Utf8Type, ListType, TupleType, OptionalType, ResponseType, fields, admits, size_of}
use Rattle.cl_types.specs.Lattice.{least_supertype}
use Rattle.cl_types.specs.Sized.{is_name, made}

names : map is_name (codes "a" ∷ codes "Z9" ∷ codes "a-_!?+<>=/*" ∷ codes "-" ∷ codes "+" ∷ codes "=" ∷ codes "/" ∷ codes "*" ∷ codes "<" ∷ codes ">" ∷ codes "<=" ∷ codes ">=" ∷ codes "u1" ∷ codes "ft-mint?" ∷ replicate 128 110 ∷ []) ≡ replicate 15 true
names = refl

no_names : map is_name ([] ∷ codes "1a" ∷ codes "-a" ∷ codes "--" ∷ codes "==" ∷ codes "=<" ∷ codes "<==" ∷ codes "a b" ∷ codes "a.b" ∷ codes "a'" ∷ (97 ∷ 195 ∷ 169 ∷ []) ∷ codes "?" ∷ codes "_a" ∷ replicate 129 110 ∷ []) ≡ replicate 14 false
no_names = refl

-- names in the order of their bytes
order_of_names : map (λ (pair : List ℕ × List ℕ). slice_cmp nat_cmp pair.0 pair.1) ((codes "a", codes "b") ∷ (codes "B", codes "a") ∷ (codes "a", codes "aa") ∷ (codes "ab", codes "b") ∷ (codes "a-", codes "a1") ∷ []) ≡ replicate 5 Less
order_of_names = refl

-- the tuple with a type under one key
abbrev under : List ℕ → PlainType → PlainType
under key t = TupleType (fields ((key, t) ∷ []))

abbrev a_int : PlainType
a_int = under (codes "a") IntType

abbrev b_int : PlainType
b_int = under (codes "b") IntType

abbrev ok_int : PlainType
ok_int = ResponseType IntType NoType

abbrev err_uint : PlainType
err_uint = ResponseType NoType UintType

abbrev int_or_uint : PlainType
int_or_uint = ResponseType IntType UintType

abbrev types : List PlainType
types =
    NoType ∷ IntType ∷ UintType ∷ BoolType ∷ PrincipalType ∷ BuffType 2 ∷ BuffType 3 ∷ AsciiType 2 ∷ Utf8Type 2
    ∷ ListType 2 IntType ∷ ListType 3 NoType ∷ ListType 3 IntType ∷ a_int ∷ b_int
    ∷ OptionalType NoType ∷ OptionalType IntType ∷ ok_int ∷ err_uint ∷ int_or_uint ∷ []

-- what is answered for a type in front of what is answered for the others, but that no type admits both
abbrev unless_differ : PlainType → Result PlainType TyRefusal → List (PlainType × Result PlainType TyRefusal) → List (PlainType × Result PlainType TyRefusal)
unless_differ u (Err Differ) rest = rest
unless_differ u answer rest = (u, answer) ∷ rest

-- the types of a list that a type has a supertype with, each with the least
abbrev with_supertypes : PlainType → List PlainType → List (PlainType × Result PlainType TyRefusal)
with_supertypes t [] = []
with_supertypes t (u ∷ us) = unless_differ u (least_supertype t u) (with_supertypes t us)

-- the row of a type that has a supertype with itself and NoType alone
abbrev alone : PlainType → List (PlainType × Result PlainType TyRefusal)
alone t = (NoType, Ok t) ∷ (t, Ok t) ∷ []

least_supertypes : map (λ t. with_supertypes t types) types ≡
    map (λ t. (t, Ok t)) types
    ∷ alone IntType ∷ alone UintType ∷ alone BoolType ∷ alone PrincipalType
    ∷ ((NoType, Ok (BuffType 2)) ∷ (BuffType 2, Ok (BuffType 2)) ∷ (BuffType 3, Ok (BuffType 3)) ∷ [])
    ∷ ((NoType, Ok (BuffType 3)) ∷ (BuffType 2, Ok (BuffType 3)) ∷ (BuffType 3, Ok (BuffType 3)) ∷ [])
    ∷ alone (AsciiType 2) ∷ alone (Utf8Type 2)
    ∷ ((NoType, Ok (ListType 2 IntType)) ∷ (ListType 2 IntType, Ok (ListType 2 IntType)) ∷ (ListType 3 NoType, Ok (ListType 3 IntType)) ∷ (ListType 3 IntType, Ok (ListType 3 IntType)) ∷ [])
    ∷ ((NoType, Ok (ListType 3 NoType)) ∷ (ListType 2 IntType, Ok (ListType 3 IntType)) ∷ (ListType 3 NoType, Ok (ListType 3 NoType)) ∷ (ListType 3 IntType, Ok (ListType 3 IntType)) ∷ [])
    ∷ ((NoType, Ok (ListType 3 IntType)) ∷ (ListType 2 IntType, Ok (ListType 3 IntType)) ∷ (ListType 3 NoType, Ok (ListType 3 IntType)) ∷ (ListType 3 IntType, Ok (ListType 3 IntType)) ∷ [])
    ∷ alone a_int ∷ alone b_int
    ∷ ((NoType, Ok (OptionalType NoType)) ∷ (OptionalType NoType, Ok (OptionalType NoType)) ∷ (OptionalType IntType, Ok (OptionalType IntType)) ∷ [])
    ∷ ((NoType, Ok (OptionalType IntType)) ∷ (OptionalType NoType, Ok (OptionalType IntType)) ∷ (OptionalType IntType, Ok (OptionalType IntType)) ∷ [])
    ∷ ((NoType, Ok ok_int) ∷ (ok_int, Ok ok_int) ∷ (err_uint, Ok int_or_uint) ∷ (int_or_uint, Ok int_or_uint) ∷ [])
    ∷ ((NoType, Ok err_uint) ∷ (ok_int, Ok int_or_uint) ∷ (err_uint, Ok err_uint) ∷ (int_or_uint, Ok int_or_uint) ∷ [])
    ∷ ((NoType, Ok int_or_uint) ∷ (ok_int, Ok int_or_uint) ∷ (err_uint, Ok int_or_uint) ∷ (int_or_uint, Ok int_or_uint) ∷ [])
    ∷ []
least_supertypes = refl

-- a type and NoType
abbrev itself : PlainType → List PlainType
itself t = NoType ∷ t ∷ []

-- what each type admits
admitted : map (λ t. filter (admits t) types) types ≡
    (NoType ∷ [])
    ∷ itself IntType ∷ itself UintType ∷ itself BoolType ∷ itself PrincipalType
    ∷ itself (BuffType 2) ∷ (NoType ∷ BuffType 2 ∷ BuffType 3 ∷ []) ∷ itself (AsciiType 2) ∷ itself (Utf8Type 2)
    ∷ itself (ListType 2 IntType) ∷ itself (ListType 3 NoType) ∷ (NoType ∷ ListType 2 IntType ∷ ListType 3 NoType ∷ ListType 3 IntType ∷ [])
    ∷ itself a_int ∷ itself b_int
    ∷ itself (OptionalType NoType) ∷ (NoType ∷ OptionalType NoType ∷ OptionalType IntType ∷ [])
    ∷ itself ok_int ∷ itself err_uint ∷ (NoType ∷ ok_int ∷ err_uint ∷ int_or_uint ∷ [])
    ∷ []
admitted = refl

-- a tuple of two buffers with these greatest lengths
abbrev buffers : ℕ → ℕ → PlainType
buffers m n = TupleType (fields ((codes "a", BuffType m) ∷ (codes "b", BuffType n) ∷ []))

-- two types within the limits, whose least supertype isn't
sizes_of_buffers : map size_of (buffers 600000 0 ∷ buffers 0 600000 ∷ []) ≡ 600019 ∷ 600019 ∷ []
sizes_of_buffers = refl

too_large_a_supertype : least_supertype (buffers 600000 0) (buffers 0 600000) ≡ Err TooLarge
too_large_a_supertype = refl

-- nor may a part be too large, of a list without entries
too_large_a_part : least_supertype (ListType 0 (buffers 600000 0)) (ListType 0 (buffers 0 600000)) ≡ Err TooLarge
too_large_a_part = refl

-- the size of the type that is made, or why there is none
abbrev size_made : PlainType → Result ℕ TyRefusal
size_made t = result_map_both size_of (λ refusal. refusal) (made t)

sizes_of_leaves : map size_made (NoType ∷ IntType ∷ UintType ∷ BoolType ∷ PrincipalType ∷ BuffType 1048571 ∷ AsciiType 1048571 ∷ Utf8Type 262142 ∷ []) ≡
    Ok 0 ∷ Ok 17 ∷ Ok 17 ∷ Ok 1 ∷ Ok 151 ∷ Ok 1048576 ∷ Ok 1048576 ∷ Ok 1048573 ∷ []
sizes_of_leaves = refl

too_large_leaves : map made (BuffType 1048572 ∷ AsciiType 4294967295 ∷ Utf8Type 262143 ∷ []) ≡ replicate 3 (Err TooLarge)
too_large_leaves = refl

sizes_of_parts : map size_made (ListType 1048571 BoolType ∷ ListType 1048576 NoType ∷ ListType 0 (BuffType 1048571) ∷ OptionalType (BuffType 1048570) ∷ ResponseType (BuffType 1048570) (BuffType 1048570) ∷ []) ≡
    Ok 1048576 ∷ Ok 5 ∷ Ok 5 ∷ Ok 1048576 ∷ Ok 1048576 ∷ []
sizes_of_parts = refl

too_large_parts : map made (ListType 1048572 BoolType ∷ ListType 1048577 NoType ∷ ListType 0 (BuffType 1048572) ∷ OptionalType (BuffType 1048571) ∷ ResponseType BoolType (BuffType 1048571) ∷ []) ≡ replicate 5 (Err TooLarge)
too_large_parts = refl

-- the tuple of a type and two bools under three keys
abbrev tuple : List ℕ → PlainType → List ℕ → List ℕ → PlainType
tuple first t second third = TupleType (fields ((first, t) ∷ (second, BoolType) ∷ (third, BoolType) ∷ []))

sizes_of_tuples : map size_made (tuple (codes "aa") (BuffType 1048557) (codes "b") (codes "c") ∷ tuple (codes "aa") (BuffType 1048558) (codes "b") (codes "c") ∷ tuple (codes "b") BoolType (codes "aa") (codes "B") ∷ []) ≡
    Ok 1048576 ∷ Err TooLarge ∷ Ok 15 ∷ []
sizes_of_tuples = refl

keys_in_order : made (tuple (codes "b") BoolType (codes "aa") (codes "B")) ≡ Ok (tuple (codes "B") BoolType (codes "aa") (codes "b"))
keys_in_order = refl

-- an int in so many optionals
abbrev wrapped : ℕ → PlainType
wrapped zero = IntType
wrapped (suc n) = OptionalType (wrapped n)

depths : map size_made (wrapped 31 ∷ wrapped 32 ∷ []) ≡ Ok 48 ∷ Err TooDeep ∷ []
depths = refl

-- the first refusal that holds anywhere, and not at the first place
refusals_in_order : map made (ResponseType (BuffType 4294967295) (wrapped 32) ∷ tuple (codes "a") (wrapped 32) (codes "a") (codes "b") ∷ tuple (codes "a") BoolType (codes "b") (codes "a") ∷ ResponseType (tuple (codes "a") IntType (codes "a") (codes "b")) (TupleType (fields [])) ∷ []) ≡
    Err TooDeep ∷ Err KeyTwice ∷ Err KeyTwice ∷ Err EmptyTuple ∷ []
refusals_in_order = refl
