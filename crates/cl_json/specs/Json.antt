-- What bytes are as JSON, and which names of an object aren't known.
use Rattle.std.specs.Prelude.{ℕ, Bool, not, List, [], ◌∷◌, filter, Option, None, if◌then◌else◌}
use Rattle.std.specs.List.{slice_get, list_any}
use Rattle.std.specs.Str.{is_utf8, bytes_eq}
use Rattle.serde_json.specs.Data.{Data, Members, no_members, member}
use Rattle.serde_json.specs.Read.{read}

-- the value that the bytes are, where they are UTF-8 and JSON by `serde_json`
unfoldable pub json_of : List ℕ → Option Data
json_of bytes = if is_utf8 bytes then read bytes else None

abbrev pub is_known : List (List ℕ) → List ℕ → Bool
is_known known name = list_any (λ other. bytes_eq name other) known

-- the names of an object, in its order
abbrev pub names_of : Members → List (List ℕ)
names_of no_members = []
names_of (member name d members) = name ∷ names_of members

abbrev pub unknown_names : List (List ℕ) → Members → List (List ℕ)
unknown_names known members = filter (λ name. not (is_known known name)) (names_of members)

-- the first name, in the object's order, that isn't known: the least, as the names of what is read rise
abbrev pub unknown_member : List (List ℕ) → Members → Option (List ℕ)
unknown_member known members = slice_get (unknown_names known members) 0
