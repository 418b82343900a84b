-- Types as a text writes them.
use Rattle.std.specs.Prelude.{ℕ, ℤ, pos, negsuc, List, codes, if◌then◌else◌, nat_le, Option, Some, None, option_map, option_and_then, Result, Ok, Err}
use Rattle.cl_types.specs.Types.{PlainType, IntType, UintType, BoolType, PrincipalType, BuffType, AsciiType, Utf8Type, ListType, TupleType, OptionalType, ResponseType, Fields, NoField, Field}
use Rattle.cl_types.specs.Sized.{most_size, made}
use Rattle.cl_types.specs.declared.sized.TyRefusal.{TyRefusal}
use Rattle.cl_sexpr.specs.Tree.{Tree, LeafAt, ListAt, TupleAt, Named, Signed, Forest, Empty, Then, Pairs, NoPair, Pair}
use Rattle.cl_forms.specs.Names.{same}
use Rattle.cl_forms.specs.declared.type_word.TypeWord.{TypeWord}
use Rattle.cl_forms.specs.declared.type_word.TypeWord.TheVariants.{Buff, Ascii, Utf8, List as ListWord, Optional, Response, Tuple}

-- the type that is one word
abbrev pub simple_type : List ℕ → Option PlainType
simple_type x =
    if same x (codes "int") then Some IntType
    else (if same x (codes "uint") then Some UintType
    else (if same x (codes "bool") then Some BoolType
    else (if same x (codes "principal") then Some PrincipalType else None)))

-- the word that a type in brackets begins with
abbrev pub type_word : List ℕ → Option TypeWord
type_word x =
    if same x (codes "buff") then Some Buff
    else (if same x (codes "string-ascii") then Some Ascii
    else (if same x (codes "string-utf8") then Some Utf8
    else (if same x (codes "list") then Some ListWord
    else (if same x (codes "optional") then Some Optional
    else (if same x (codes "response") then Some Response
    else (if same x (codes "tuple") then Some Tuple else None))))))

-- a greatest length: an int from 0 up to the limit, however it is spelled
abbrev pub length_by : ℤ → Option ℕ
length_by (pos n) = if nat_le n most_size then Some n else None
length_by (negsuc n) = None

abbrev pub stated_length : Tree → Option ℕ
stated_length (LeafAt (Signed z) at) = length_by z
stated_length e = None

abbrev pub list_type : Option ℕ → Option PlainType → Option PlainType
list_type (Some n) (Some t) = Some (ListType n t)
list_type n t = None

abbrev pub response_type : Option PlainType → Option PlainType → Option PlainType
response_type (Some t) (Some e) = Some (ResponseType t e)
response_type t e = None

abbrev pub and_field : List ℕ → Option PlainType → Option Fields → Option Fields
and_field k (Some t) (Some fs) = Some (Field k t fs)
and_field k t fs = None

-- the type that an item writes, of any size and depth, its keys as they stand
abbrev mutual
  pub type_of : Tree → Option PlainType
  type_of (LeafAt (Named x) at) = simple_type x
  type_of (LeafAt l at) = None
  type_of (ListAt (Then (LeafAt (Named x) at) parts) at') = type_by (type_word x) parts
  type_of (ListAt items at) = None
  type_of (TupleAt parts at) = option_map TupleType (fields_of_pairs parts)

  -- the type of a word with these parts behind it
  pub type_by : Option TypeWord → Forest → Option PlainType
  type_by (Some Buff) (Then n Empty) = option_map BuffType (stated_length n)
  type_by (Some Ascii) (Then n Empty) = option_map AsciiType (stated_length n)
  type_by (Some Utf8) (Then n Empty) = option_map Utf8Type (stated_length n)
  type_by (Some ListWord) (Then n (Then t Empty)) = list_type (stated_length n) (type_of t)
  type_by (Some Optional) (Then t Empty) = option_map OptionalType (type_of t)
  type_by (Some Response) (Then t (Then e Empty)) = response_type (type_of t) (type_of e)
  type_by (Some Tuple) Empty = Some (TupleType NoField)
  type_by (Some Tuple) (Then (ListAt (Then (LeafAt (Named k) at) (Then t Empty)) at') es) = option_map TupleType (and_field k (type_of t) (fields_of es))
  type_by word parts = None

  -- pairs in round brackets, each of a key and a type
  pub fields_of : Forest → Option Fields
  fields_of Empty = Some NoField
  fields_of (Then (ListAt (Then (LeafAt (Named k) at) (Then t Empty)) at') es) = and_field k (type_of t) (fields_of es)
  fields_of (Then e es) = None

  pub fields_of_pairs : Pairs → Option Fields
  fields_of_pairs NoPair = Some NoField
  fields_of_pairs (Pair k t parts) = and_field k (type_of t) (fields_of_pairs parts)

abbrev pub made_type : Result PlainType TyRefusal → Option PlainType
made_type (Ok t) = Some t
made_type (Err refusal) = None

-- the type that an item writes, if it is one, has keys that differ and at least one in each tuple, and keeps the limits
unfoldable pub written_type : Tree → Option PlainType
written_type e = option_and_then (λ t. made_type (made t)) (type_of e)
