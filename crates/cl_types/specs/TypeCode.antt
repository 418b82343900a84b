-- How a ghost variable stores a type.
use Rattle.std.specs.Prelude.{◌≡◌, ℕ, List, refl}
use Rattle.std.specs.Coded.{Coded, coded_list, coded_ℕ}
use Rattle.std.proofs.Common.{ap}
use Rattle.std.proofs.lemmas.Bool.{eqb-false}
use base.Stored.{Gv, gnil, gnum, gcons}
use Rattle.cl_types.specs.CodeParts.{first, rest, second, third, number, tag, parts}
use Rattle.cl_types.specs.Types.{PlainType, NoType, IntType, UintType, BoolType, PrincipalType, BuffType, AsciiType, Utf8Type, ListType, TupleType, OptionalType, ResponseType, Fields, NoField, Field}

abbrev name_code : Coded (List ℕ)
name_code = coded_list coded_ℕ

abbrev mutual
  code_type : PlainType → Gv
  code_type NoType = gcons (gnum 0) gnil
  code_type IntType = gcons (gnum 1) gnil
  code_type UintType = gcons (gnum 2) gnil
  code_type BoolType = gcons (gnum 3) gnil
  code_type PrincipalType = gcons (gnum 4) gnil
  code_type (BuffType n) = gcons (gnum 5) (gnum n)
  code_type (AsciiType n) = gcons (gnum 6) (gnum n)
  code_type (Utf8Type n) = gcons (gnum 7) (gnum n)
  code_type (ListType n t) = gcons (gnum 8) (gcons (gnum n) (code_type t))
  code_type (TupleType fs) = gcons (gnum 9) (code_fields fs)
  code_type (OptionalType t) = gcons (gnum 10) (code_type t)
  code_type (ResponseType t e) = gcons (gnum 11) (gcons (code_type t) (code_type e))

  code_fields : Fields → Gv
  code_fields NoField = gnil
  code_fields (Field k t fs) = gcons (name_code.code k) (gcons (code_type t) (code_fields fs))

list_same : (m n : ℕ) (a b : PlainType) → m ≡ n → a ≡ b → ListType m a ≡ ListType n b
list_same m n a b p q i = ListType (p i) (q i)

response_same : (a b c d : PlainType) → a ≡ b → c ≡ d → ResponseType a c ≡ ResponseType b d
response_same a b c d p q i = ResponseType (p i) (q i)

field_same : (j k : List ℕ) (a b : PlainType) (fs gs : Fields) → j ≡ k → a ≡ b → fs ≡ gs → Field j a fs ≡ Field k b gs
field_same j k a b fs gs p q r i = Field (p i) (q i) (r i)

mutual
  pub type_inj : (x y : PlainType) → code_type x ≡ code_type y → x ≡ y
  type_inj NoType NoType p = refl
  type_inj IntType IntType p = refl
  type_inj UintType UintType p = refl
  type_inj BoolType BoolType p = refl
  type_inj PrincipalType PrincipalType p = refl
  type_inj (BuffType m) (BuffType n) p = ap (λ g. BuffType (number (rest g))) p
  type_inj (AsciiType m) (AsciiType n) p = ap (λ g. AsciiType (number (rest g))) p
  type_inj (Utf8Type m) (Utf8Type n) p = ap (λ g. Utf8Type (number (rest g))) p
  type_inj (ListType m a) (ListType n b) p = list_same m n a b (ap (λ g. number (second g)) p) (type_inj a b (ap third p))
  type_inj (TupleType fs) (TupleType gs) p = ap TupleType (fields_inj fs gs (ap rest p))
  type_inj (OptionalType a) (OptionalType b) p = ap OptionalType (type_inj a b (ap rest p))
  type_inj (ResponseType a c) (ResponseType b d) p = response_same a b c d (type_inj a b (ap second p)) (type_inj c d (ap third p))
  type_inj x y p = absurd (eqb-false (tag (code_type x)) (tag (code_type y)) refl (ap tag p))

  pub fields_inj : (x y : Fields) → code_fields x ≡ code_fields y → x ≡ y
  fields_inj NoField NoField p = refl
  fields_inj (Field j a fs) (Field k b gs) p = field_same j k a b fs gs (name_code.inj j k (ap first p)) (type_inj a b (ap second p)) (fields_inj fs gs (ap third p))
  fields_inj x y p = absurd (eqb-false (parts (code_fields x)) (parts (code_fields y)) refl (ap parts p))

abbrev pub type_code : Coded PlainType
type_code = record { code = code_type; inj = type_inj }
