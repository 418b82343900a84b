-- A state that has the spots of another, and how tables come to it.
use Rattle.std.specs.Prelude.{ℕ, ◌==◌, ◌&&◌, Bool, true, false, not, cond, List, [], ◌∷◌, if◌then◌else◌}
use Rattle.std.specs.List.{list_any}
use Rattle.std.specs.FinMap.Entries as entries
use Rattle.cl_maps.specs.Maps.{Map, key_cmp, put}
use Rattle.cl_tokens.specs.Table.{is_key}
use Rattle.cl_events.specs.State.{State}
use Rattle.cl_tables.specs.declared.place.Place.{Place}
use Rattle.cl_tables.specs.declared.spot.Spot.{Spot}
use Rattle.cl_tables.specs.declared.spot.Spot.TheVariants.{Variable, MapOf, Token, Stx}
use Rattle.cl_tables.specs.Variables.{key_of}

-- a key begins so
abbrev pub begins : List ℕ → List ℕ → Bool
begins [] key = true
begins (b ∷ front) [] = false
begins (b ∷ front) (c ∷ key) = b == c && begins front key

-- ---- what spots name

abbrev pub is_variable_at : List ℕ → Spot → Bool
is_variable_at key (Variable at) = is_key (key_of at) key
is_variable_at key spot = false

-- each key of a map's entry begins with the map's place
abbrev pub is_entry_at : List ℕ → Spot → Bool
is_entry_at key (MapOf at) = begins (key_of at) key
is_entry_at key spot = false

abbrev pub is_token_at : List ℕ → Spot → Bool
is_token_at key (Token at) = is_key (key_of at) key
is_token_at key spot = false

abbrev pub is_stx : Spot → Bool
is_stx Stx = true
is_stx spot = false

-- some of the spots names it

abbrev pub names_variable : List Spot → List ℕ → Bool
names_variable spots key = list_any (is_variable_at key) spots

abbrev pub names_entry : List Spot → List ℕ → Bool
names_entry spots key = list_any (is_entry_at key) spots

abbrev pub names_token : List Spot → List ℕ → Bool
names_token spots key = list_any (is_token_at key) spots

abbrev pub names_stx : List Spot → Bool
names_stx spots = list_any is_stx spots

-- ---- grafts

-- the entries at the keys of a test
abbrev pub where_keys : {A : Type 0} → (List ℕ → Bool) → Map A → Map A
where_keys test m = record {
  list = entries.where_key key_cmp test m.list;
  rising = entries.is_sorted-where_key key_cmp test m.list m.rising;
}

abbrev pub put_all : {A : Type 0} → List (List ℕ × A) → Map A → Map A
put_all [] m = m
put_all (e ∷ es) m = put e.0 e.1 (put_all es m)

-- a map that is one map at the keys of a test, and another elsewhere
abbrev pub joined : {A : Type 0} → (List ℕ → Bool) → Map A → Map A → Map A
joined test from m = put_all (where_keys test from).list (where_keys (λ key. not (test key)) m)

-- a state that is at these spots that of `from`, and elsewhere as it was
abbrev pub grafted : List Spot → State → State → State
grafted spots from s = record s {
  variables = joined (names_variable spots) from.variables s.variables;
  entries = joined (names_entry spots) from.entries s.entries;
  fungibles = joined (names_token spots) from.fungibles s.fungibles;
  nonfungibles = joined (names_token spots) from.nonfungibles s.nonfungibles;
  stx = if names_stx spots then from.stx else s.stx;
}

-- ---- tables

-- a key begins with one of these
abbrev pub begins_so : List (List ℕ) → List ℕ → Bool
begins_so fronts key = list_any (λ front. begins front key) fronts

-- a test is passed, or isn't, as is wanted
abbrev pub is_wanted : Bool → (List ℕ → Bool) → List ℕ → Bool
is_wanted wanted test key = cond wanted (test key) (not (test key))

-- a map into which the rows are put whose keys pass a test, one after another
abbrev pub with_rows : {A : Type 0} → (List ℕ → Bool) → List (List ℕ × A) → Map A → Map A
with_rows test [] m = m
with_rows test (e ∷ es) m = with_rows test es (if test e.0 then put e.0 e.1 m else m)

-- and so of tokens, the last first
abbrev pub with_tokens : {A : Type 0} → (List ℕ → Bool) → List (Place × A) → Map A → Map A
with_tokens test [] m = m
with_tokens test (e ∷ es) m =
    if test (key_of e.0)
    then put (key_of e.0) e.1 (with_tokens test es m)
    else with_tokens test es m
