-- The definitions compute: types as text.
use Rattle.std.proofs.Common.{refl}
use Rattle.std.specs.Prelude.{◌≡◌, [], ◌∷◌, map, codes}
use Rattle.std.specs.Fmt.{digits}
use Rattle.cl_types.specs.Types.{NoType, IntType, UintType, BoolType, PrincipalType, BuffType, AsciiType, Utf8Type, ListType, TupleType, OptionalType, ResponseType, fields}
use Rattle.cl_text.specs.PrintedTypes.{printed_type}

types_without_parts : map printed_type (NoType ∷ IntType ∷ UintType ∷ BoolType ∷ PrincipalType ∷ BuffType 0 ∷ AsciiType 1048571 ∷ Utf8Type 256 ∷ []) ≡
    codes "no-type" ∷ codes "int" ∷ codes "uint" ∷ codes "bool" ∷ codes "principal" ∷ codes "(buff 0)" ∷ codes "(string-ascii 1048571)" ∷ codes "(string-utf8 256)" ∷ []
unfolding digits
types_without_parts = refl

types_with_parts : map printed_type (ListType 7 UintType ∷ OptionalType NoType ∷ ResponseType BoolType UintType ∷ TupleType (fields ((codes "a-1", BuffType 34) ∷ (codes "b", BoolType) ∷ [])) ∷ []) ≡
    codes "(list 7 uint)" ∷ codes "(optional no-type)" ∷ codes "(response bool uint)" ∷ codes "{a-1: (buff 34), b: bool}" ∷ []
unfolding digits
types_with_parts = refl
