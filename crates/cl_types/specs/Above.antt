-- What admits a type of some kind is of that kind: a fact on all types of it is one on the type that admits.
use Rattle.std.specs.Prelude.{◌≡◌, ℕ, true, false, ◌&&◌, nat_eq, nat_le, List}
use Rattle.std.specs.Cmp.{first_so, second_so}
use Rattle.std.specs.Cmp.Lexicographic.{pointwise}
use Rattle.cl_types.specs.Types.{PlainType, IntType, UintType, BoolType, PrincipalType, BuffType, AsciiType, Utf8Type, ListType, TupleType, OptionalType, ResponseType, Fields, NoField, Field, admits, admits_fields}

no : false ≡ true → ⊥
no h = cc

pub above_int : (P : PlainType → Type 0) (d : PlainType) → admits d IntType ≡ true → P IntType → P d
above_int P IntType h p = p
above_int P d h p = absurd (no h)

pub above_uint : (P : PlainType → Type 0) (d : PlainType) → admits d UintType ≡ true → P UintType → P d
above_uint P UintType h p = p
above_uint P d h p = absurd (no h)

pub above_bool : (P : PlainType → Type 0) (d : PlainType) → admits d BoolType ≡ true → P BoolType → P d
above_bool P BoolType h p = p
above_bool P d h p = absurd (no h)

pub above_principal : (P : PlainType → Type 0) (d : PlainType) → admits d PrincipalType ≡ true → P PrincipalType → P d
above_principal P PrincipalType h p = p
above_principal P d h p = absurd (no h)

pub above_buff : (P : PlainType → Type 0) (d : PlainType) (n : ℕ) → admits d (BuffType n) ≡ true → ((m : ℕ) → nat_le n m ≡ true → P (BuffType m)) → P d
above_buff P (BuffType m) n h p = p m h
above_buff P d n h p = absurd (no h)

pub above_ascii : (P : PlainType → Type 0) (d : PlainType) (n : ℕ) → admits d (AsciiType n) ≡ true → ((m : ℕ) → nat_le n m ≡ true → P (AsciiType m)) → P d
above_ascii P (AsciiType m) n h p = p m h
above_ascii P d n h p = absurd (no h)

pub above_utf8 : (P : PlainType → Type 0) (d : PlainType) (n : ℕ) → admits d (Utf8Type n) ≡ true → ((m : ℕ) → nat_le n m ≡ true → P (Utf8Type m)) → P d
above_utf8 P (Utf8Type m) n h p = p m h
above_utf8 P d n h p = absurd (no h)

pub above_list : (P : PlainType → Type 0) (d : PlainType) (n : ℕ) (b : PlainType) → admits d (ListType n b) ≡ true → ((m : ℕ) (a : PlainType) → nat_le n m ≡ true → admits a b ≡ true → P (ListType m a)) → P d
above_list P (ListType m a) n b h p = p m a (first_so _ _ h) (second_so _ _ h)
above_list P d n b h p = absurd (no h)

pub above_tuple : (P : PlainType → Type 0) (d : PlainType) (gs : Fields) → admits d (TupleType gs) ≡ true → ((fs : Fields) → admits_fields fs gs ≡ true → P (TupleType fs)) → P d
above_tuple P (TupleType fs) gs h p = p fs h
above_tuple P d gs h p = absurd (no h)

pub above_optional : (P : PlainType → Type 0) (d b : PlainType) → admits d (OptionalType b) ≡ true → ((a : PlainType) → admits a b ≡ true → P (OptionalType a)) → P d
above_optional P (OptionalType a) b h p = p a h
above_optional P d b h p = absurd (no h)

pub above_response : (P : PlainType → Type 0) (d b c : PlainType) → admits d (ResponseType b c) ≡ true → ((a e : PlainType) → admits a b ≡ true → admits e c ≡ true → P (ResponseType a e)) → P d
above_response P (ResponseType a e) b c h p = p a e (first_so _ _ h) (second_so _ _ h)
above_response P d b c h p = absurd (no h)

pub above_none : (P : Fields → Type 0) (fs : Fields) → admits_fields fs NoField ≡ true → P NoField → P fs
above_none P NoField h p = p
above_none P (Field j a fs) h p = absurd (no h)

pub above_field : (P : Fields → Type 0) (fs : Fields) (k : List ℕ) (b : PlainType) (gs : Fields) → admits_fields fs (Field k b gs) ≡ true → ((j : List ℕ) (a : PlainType) (es : Fields) → pointwise nat_eq j k ≡ true → admits a b ≡ true → admits_fields es gs ≡ true → P (Field j a es)) → P fs
above_field P NoField k b gs h p = absurd (no h)
above_field P (Field j a fs) k b gs h p =
    let first : (pointwise nat_eq j k && admits a b) ≡ true = first_so _ (admits_fields fs gs) h in
    p j a fs (first_so _ _ first) (second_so _ _ first) (second_so _ (admits_fields fs gs) h)
