-- What value an item stands for: its value, or the span of the first part, from the left, that is no literal while all
-- around it are.
use Rattle.std.specs.Prelude.{ℕ, ◌&&◌, not, Bool, true, false, if◌then◌else◌, List, [], ◌∷◌, codes, fold, Option, Some, None, Result, Ok, Err}
use Rattle.std.specs.List.{list_any}
use Rattle.std.specs.Option.{ok_or}
use Rattle.std.specs.Str.{bytes_eq}
use Rattle.std.specs.Ordering.{nat_cmp}
use Rattle.std.specs.Cmp.Lexicographic.{slice_cmp}
use Rattle.std.specs.BTreeMap.{insert_entry}
use Rattle.cl_sexpr.specs.declared.sexpr.Span.{Span}
use Rattle.cl_sexpr.specs.Tree.{Leaf, Named, Signed, Unsigned, Bytes, Ascii, Unicode, Standing, Local, Tree as Item, LeafAt, ListAt, TupleAt, Forest, Empty, Then, Pairs, NoPair, Pair}
use Rattle.cl_values.specs.Tree.{Tree, IntV, UintV, BoolV, BuffV, AsciiV, Utf8V, PrincipalV, ListV, TupleV, NoneV, SomeV, ResponseV, items_of, entries_of}
use Rattle.cl_text.specs.declared.word.Word.{Word}
use Rattle.cl_text.specs.declared.word.Word.TheVariants as word

-- the names that mean something in a literal
abbrev pub word_of : List ℕ → Word
word_of name =
    if bytes_eq name (codes "true") then word.True
    else (if bytes_eq name (codes "false") then word.False
    else (if bytes_eq name (codes "none") then word.None
    else (if bytes_eq name (codes "some") then word.Some
    else (if bytes_eq name (codes "ok") then word.Ok
    else (if bytes_eq name (codes "err") then word.Err
    else (if bytes_eq name (codes "list") then word.List
    else (if bytes_eq name (codes "tuple") then word.Tuple
    else word.Other)))))))

-- the value that a word is
abbrev pub word_value : Word → Option Tree
word_value word.True = Some (BoolV true)
word_value word.False = Some (BoolV false)
word_value word.None = Some NoneV
word_value word.Some = None
word_value word.Ok = None
word_value word.Err = None
word_value word.List = None
word_value word.Tuple = None
word_value word.Other = None

-- an own contract is no literal
abbrev pub leaf_value : Leaf → Option Tree
leaf_value (Named name) = word_value (word_of name)
leaf_value (Signed z) = Some (IntV z)
leaf_value (Unsigned n) = Some (UintV n)
leaf_value (Bytes bytes) = Some (BuffV bytes)
leaf_value (Ascii bytes) = Some (AsciiV bytes)
leaf_value (Unicode characters) = Some (Utf8V characters)
leaf_value (Standing p) = Some (PrincipalV p)
leaf_value (Local name) = None

-- the name that an item is
abbrev pub name_of : Item → Option (List ℕ)
name_of (LeafAt (Named name) span) = Some name
name_of item = None

abbrev pub word_in : Option (List ℕ) → Word
word_in (Some name) = word_of name
word_in None = word.Other

-- keys of a tuple: one at least, and none among those behind it
abbrev pub are_distinct : List (List ℕ) → Bool
are_distinct [] = true
are_distinct (k ∷ ks) = not (list_any (bytes_eq k) ks) && are_distinct ks

abbrev pub are_tuple_keys : List (List ℕ) → Bool
are_tuple_keys [] = false
are_tuple_keys (k ∷ ks) = are_distinct (k ∷ ks)

abbrev pub is_one : Forest → Bool
is_one Empty = false
is_one (Then item Empty) = true
is_one (Then item (Then other others)) = false

-- the key of a pair (key item)
abbrev pub key_in_front : Forest → Option (List ℕ)
key_in_front Empty = None
key_in_front (Then key parts) = if is_one parts then name_of key else None

abbrev pub pair_key : Item → Option (List ℕ)
pair_key (LeafAt leaf span) = None
pair_key (ListAt items span) = key_in_front items
pair_key (TupleAt pairs span) = None

abbrev pub with_key : Option (List ℕ) → Option (List (List ℕ)) → Option (List (List ℕ))
with_key None keys = None
with_key (Some key) None = None
with_key (Some key) (Some keys) = Some (key ∷ keys)

-- the keys of pairs, where each item is a pair
abbrev pub pair_keys : Forest → Option (List (List ℕ))
pair_keys Empty = Some []
pair_keys (Then pair others) = with_key (pair_key pair) (pair_keys others)

abbrev pub keys_of : Pairs → List (List ℕ)
keys_of NoPair = []
keys_of (Pair key item others) = key ∷ keys_of others

-- whether items are pairs with the keys of a tuple
abbrev pub are_pairs : Option (List (List ℕ)) → Bool
are_pairs None = false
are_pairs (Some keys) = are_tuple_keys keys

-- entries in the order of their keys, byte by byte
abbrev pub by_key : List (List ℕ × Tree) → List (List ℕ × Tree)
by_key entries = fold (λ sorted entry. insert_entry (slice_cmp nat_cmp) sorted entry.0 entry.1) [] entries

-- a value made of a part's
abbrev pub made_of : {A B : Type 0} → (A → B) → Result A Span → Result B Span
made_of make (Ok part) = Ok (make part)
made_of make (Err span) = Err span

-- the first that is no literal goes before those behind it
abbrev pub in_front : {A : Type 0} → Result A Span → Result (List A) Span → Result (List A) Span
in_front (Ok part) (Ok others) = Ok (part ∷ others)
in_front (Ok part) (Err span) = Err span
in_front (Err span) others = Err span

-- the value of the one part
abbrev pub only : Span → Forest → Result Tree Span → Result Tree Span
only span Empty value = value
only span (Then item others) value = Err span

-- a tuple of entries, where their keys are those of one
abbrev pub tuple_of : Span → Bool → Result (List (List ℕ × Tree)) Span → Result Tree Span
tuple_of span false entries = Err span
tuple_of span true entries = made_of (λ es. TupleV (entries_of (by_key es))) entries

-- what a list that begins with a word stands for, by the value of its one part, by those of its parts, and as a tuple
abbrev pub by_word : Span → Word → Result Tree Span → Result (List Tree) Span → Result Tree Span → Result Tree Span
by_word span word.True one all tuple = Err span
by_word span word.False one all tuple = Err span
by_word span word.None one all tuple = Err span
by_word span word.Some one all tuple = made_of SomeV one
by_word span word.Ok one all tuple = made_of (ResponseV true) one
by_word span word.Err one all tuple = made_of (ResponseV false) one
by_word span word.List one all tuple = made_of (λ vs. ListV (items_of vs)) all
by_word span word.Tuple one all tuple = tuple
by_word span word.Other one all tuple = Err span

abbrev pub keyed : Span → Option (List ℕ) → Result Tree Span → Result (List ℕ × Tree) Span
keyed span None value = Err span
keyed span (Some key) value = made_of (λ v. (key, v)) value

abbrev mutual
  pub literal : Item → Result Tree Span
  literal (LeafAt leaf span) = ok_or (leaf_value leaf) span
  literal (ListAt items span) = list_literal span items
  literal (TupleAt pairs span) = tuple_of span (are_tuple_keys (keys_of pairs)) (entries pairs)

  pub list_literal : Span → Forest → Result Tree Span
  list_literal span Empty = Err span
  list_literal span (Then head parts) =
      by_word span (word_in (name_of head)) (sole span parts) (literals parts) (tuple_of span (are_pairs (pair_keys parts)) (pair_entries parts))

  -- the value of the one part of a list
  pub sole : Span → Forest → Result Tree Span
  sole span Empty = Err span
  sole span (Then item others) = only span others (literal item)

  pub literals : Forest → Result (List Tree) Span
  literals Empty = Ok []
  literals (Then item others) = in_front (literal item) (literals others)

  -- the entries of pairs (key item), in the order of the text
  pub pair_entries : Forest → Result (List (List ℕ × Tree)) Span
  pair_entries Empty = Ok []
  pair_entries (Then pair others) = in_front (pair_entry pair) (pair_entries others)

  pub pair_entry : Item → Result (List ℕ × Tree) Span
  pair_entry (LeafAt leaf span) = Err span
  pair_entry (ListAt items span) = entry_in span items
  pair_entry (TupleAt pairs span) = Err span

  pub entry_in : Span → Forest → Result (List ℕ × Tree) Span
  entry_in span Empty = Err span
  entry_in span (Then key parts) = keyed span (name_of key) (sole span parts)

  -- the entries of a tuple in braces, in the order of the text
  pub entries : Pairs → Result (List (List ℕ × Tree)) Span
  entries NoPair = Ok []
  entries (Pair key item others) = in_front (made_of (λ v. (key, v)) (literal item)) (entries others)
