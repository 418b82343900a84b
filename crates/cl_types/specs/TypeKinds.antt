-- Kinds of types, and the entries of sequences.
use Rattle.std.specs.Prelude.{ℕ, ◌||◌, Bool, true, false, List}
use Rattle.std.specs.List.{list_all}
use Rattle.cl_types.specs.Types.{PlainType, NoType, IntType, UintType, BoolType, PrincipalType, BuffType, AsciiType, Utf8Type, ListType, OptionalType, ResponseType}

abbrev pub is_int : PlainType → Bool
is_int IntType = true
is_int t = false

abbrev pub is_uint : PlainType → Bool
is_uint UintType = true
is_uint t = false

abbrev pub is_bool : PlainType → Bool
is_bool BoolType = true
is_bool t = false

abbrev pub is_principal : PlainType → Bool
is_principal PrincipalType = true
is_principal t = false

abbrev pub is_optional : PlainType → Bool
is_optional (OptionalType t) = true
is_optional t = false

abbrev pub is_response : PlainType → Bool
is_response (ResponseType t e) = true
is_response t = false

abbrev pub is_undetermined : PlainType → Bool
is_undetermined NoType = true
is_undetermined t = false

-- numbers of one kind
abbrev pub are_numbers : List PlainType → Bool
are_numbers ts = list_all is_int ts || list_all is_uint ts

-- a buffer or a number
abbrev pub is_hashed : PlainType → Bool
is_hashed (BuffType n) = true
is_hashed t = is_int t || is_uint t

-- ---- sequences: lists, buffers and strings

abbrev pub is_sequence : PlainType → Bool
is_sequence (ListType n t) = true
is_sequence (BuffType n) = true
is_sequence (AsciiType n) = true
is_sequence (Utf8Type n) = true
is_sequence t = false

-- the type of a sequence's entries
abbrev pub entry_of : PlainType → PlainType
entry_of (ListType n t) = t
entry_of (BuffType n) = BuffType 1
entry_of (AsciiType n) = AsciiType 1
entry_of (Utf8Type n) = Utf8Type 1
entry_of t = NoType

-- the sequence type with another greatest length
abbrev pub resized : ℕ → PlainType → PlainType
resized m (ListType n t) = ListType m t
resized m (BuffType n) = BuffType m
resized m (AsciiType n) = AsciiType m
resized m (Utf8Type n) = Utf8Type m
resized m t = NoType
