-- Types as text.
use Rattle.std.specs.Prelude.{ℕ, List, [], ◌++◌, codes, decimal}
use Rattle.cl_types.specs.Types.{PlainType, NoType, IntType, UintType, BoolType, PrincipalType, BuffType, AsciiType, Utf8Type, ListType, TupleType, OptionalType, ResponseType, Fields, NoField, Field}
use Rattle.cl_text.specs.Printed.{entry_text}

-- a word and a greatest length
abbrev pub sized_text : List ℕ → ℕ → List ℕ
sized_text word n = word ++ (decimal n ++ codes ")")

-- a type
abbrev mutual
  pub printed_type : PlainType → List ℕ
  printed_type NoType = codes "no-type"
  printed_type IntType = codes "int"
  printed_type UintType = codes "uint"
  printed_type BoolType = codes "bool"
  printed_type PrincipalType = codes "principal"
  printed_type (BuffType n) = sized_text (codes "(buff ") n
  printed_type (AsciiType n) = sized_text (codes "(string-ascii ") n
  printed_type (Utf8Type n) = sized_text (codes "(string-utf8 ") n
  printed_type (ListType n t) = codes "(list " ++ (decimal n ++ (codes " " ++ (printed_type t ++ codes ")")))
  printed_type (TupleType fs) = codes "{" ++ (fields_text fs ++ codes "}")
  printed_type (OptionalType t) = codes "(optional " ++ (printed_type t ++ codes ")")
  printed_type (ResponseType t e) = codes "(response " ++ (printed_type t ++ (codes " " ++ (printed_type e ++ codes ")")))

  -- keys with their types, a comma and a space between
  pub fields_text : Fields → List ℕ
  fields_text NoField = []
  fields_text (Field k t fs) = entry_text k (printed_type t) ++ more_fields_text fs

  pub more_fields_text : Fields → List ℕ
  more_fields_text NoField = []
  more_fields_text (Field k t fs) = codes ", " ++ (entry_text k (printed_type t) ++ more_fields_text fs)
