-- What a type of some kind is: a fact on all types of the kind is one on the type.
use Rattle.std.proofs.Common.{◌≡◌, ℕ, true, false}
use Rattle.std.proofs.lemmas.Bool.{false≢true}
use Rattle.cl_types.specs.Types.{PlainType, IntType, UintType, BoolType, BuffType, AsciiType, Utf8Type, ListType, OptionalType, ResponseType}
use Rattle.cl_types.specs.TypeKinds.{is_int, is_uint, is_bool, is_optional, is_response, is_sequence, is_hashed}

pub int_type : (P : PlainType → Type 0) (t : PlainType) → is_int t ≡ true → P IntType → P t
int_type P IntType h p = p
int_type P t h p = absurd (false≢true h)

pub uint_type : (P : PlainType → Type 0) (t : PlainType) → is_uint t ≡ true → P UintType → P t
uint_type P UintType h p = p
uint_type P t h p = absurd (false≢true h)

pub bool_type : (P : PlainType → Type 0) (t : PlainType) → is_bool t ≡ true → P BoolType → P t
bool_type P BoolType h p = p
bool_type P t h p = absurd (false≢true h)

pub optional_type : (P : PlainType → Type 0) (t : PlainType) → is_optional t ≡ true → ((u : PlainType) → P (OptionalType u)) → P t
optional_type P (OptionalType u) h p = p u
optional_type P t h p = absurd (false≢true h)

pub response_type : (P : PlainType → Type 0) (t : PlainType) → is_response t ≡ true → ((u e : PlainType) → P (ResponseType u e)) → P t
response_type P (ResponseType u e) h p = p u e
response_type P t h p = absurd (false≢true h)

pub sequence_type : (P : PlainType → Type 0) (t : PlainType) → is_sequence t ≡ true → ((n : ℕ) (u : PlainType) → P (ListType n u)) → ((n : ℕ) → P (BuffType n)) → ((n : ℕ) → P (AsciiType n)) → ((n : ℕ) → P (Utf8Type n)) → P t
sequence_type P (ListType n u) h list buff ascii utf8 = list n u
sequence_type P (BuffType n) h list buff ascii utf8 = buff n
sequence_type P (AsciiType n) h list buff ascii utf8 = ascii n
sequence_type P (Utf8Type n) h list buff ascii utf8 = utf8 n
sequence_type P t h list buff ascii utf8 = absurd (false≢true h)

pub hashed_type : (P : PlainType → Type 0) (t : PlainType) → is_hashed t ≡ true → ((n : ℕ) → P (BuffType n)) → P IntType → P UintType → P t
hashed_type P (BuffType n) h buff int uint = buff n
hashed_type P IntType h buff int uint = int
hashed_type P UintType h buff int uint = uint
hashed_type P t h buff int uint = absurd (false≢true h)
