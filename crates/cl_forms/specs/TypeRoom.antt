-- Written types of a depth that is still allowed.
use Rattle.std.specs.Prelude.{ℕ, List, if◌then◌else◌, nat_le, Option, Some, None, option_map, option_and_then}
use Rattle.cl_types.specs.Types.{PlainType, BuffType, AsciiType, Utf8Type, Fields, NoField, Field, depth_of, depths_of}
use Rattle.cl_sexpr.specs.Tree.{Tree, Forest}
use Rattle.cl_forms.specs.WrittenTypes.{type_word, type_of, type_by, stated_length, and_field}
use Rattle.cl_forms.specs.declared.type_word.TypeWord.{TypeWord}
use Rattle.cl_forms.specs.declared.type_word.TypeWord.TheVariants.{Buff, Ascii, Utf8, List as ListWord, Optional, Response, Tuple}

-- the type, if it is no deeper
abbrev pub within : ℕ → Option PlainType → Option PlainType
within room None = None
within room (Some t) = if nat_le (depth_of t) room then Some t else None

abbrev pub fields_within : ℕ → Option Fields → Option Fields
fields_within room None = None
fields_within room (Some fs) = if nat_le (depths_of fs) room then Some fs else None

-- the type in brackets that begins with this name
abbrev pub list_by : Option (List ℕ) → Forest → Option PlainType
list_by None parts = None
list_by (Some x) parts = type_by (type_word x) parts

abbrev pub followed : Fields → Fields → Fields
followed NoField gs = gs
followed (Field k t fs) gs = Field k t (followed fs gs)

-- fields, and more behind them
abbrev pub and_more : Fields → Option Fields → Option Fields
and_more fs more = option_map (followed fs) more

-- the type of a buffer or string of this length
abbrev pub sequence_by : TypeWord → ℕ → Option PlainType
sequence_by Buff n = Some (BuffType n)
sequence_by Ascii n = Some (AsciiType n)
sequence_by Utf8 n = Some (Utf8Type n)
sequence_by ListWord n = None
sequence_by Optional n = None
sequence_by Response n = None
sequence_by Tuple n = None

abbrev pub sequence_type : TypeWord → Option Tree → Option PlainType
sequence_type word None = None
sequence_type word (Some e) = option_and_then (sequence_by word) (stated_length e)

-- a key with its type, if that is no deeper
abbrev pub field_within : ℕ → Option (List ℕ × Tree) → Option (List ℕ × PlainType)
field_within room None = None
field_within room (Some p) = option_map (λ t. (p.0, t)) (within room (type_of p.1))

-- a field, and more
abbrev pub with_field : Option (List ℕ × PlainType) → Option Fields → Option Fields
with_field None more = None
with_field (Some f) more = and_field f.0 (Some f.1) more
