-- Objects as tables: a name and a kind for each member, in order.
use Rattle.std.specs.Prelude.{◌≡◌, ℕ, List, [], ◌∷◌, Option, Some, None, option_and_then, Ok, Err}
use Rattle.std.specs.Option.{option_map_or}
use Rattle.std.specs.Str.{chars}
use Rattle.serde_json.specs.Data.{Data, Members, no_members, member as one_member}
use Rattle.serde_json.specs.Find.{get, as_object}
use Rattle.cl_values.specs.Tree.{Tree}
use Rattle.cl_text.specs.Parsed.{Reading, Stands, Parses}
use Rattle.cl_json.specs.Json.{unknown_member}
use Rattle.cl_file.specs.Paths.{Read, below, and_then, said}
use Rattle.cl_file.specs.declared.refusal.TxRefusal.TheVariants.{Field, BadValue}

-- the values of texts of literals
abbrev pub Values : Type 0
Values = List ℕ → Option Tree

abbrev pub value_in : Reading → Option Tree
value_in (Stands v) = Some v
value_in outcome = None

-- values that are those of the texts
pub record Texts : Type 0 where
  pub of : Values
  pub right : (text : List ℕ) (outcome : Reading) → Parses text outcome → of text ≡ value_in outcome

-- what a value at a path reads as
abbrev pub Kind : Type 0 → Type 0
Kind A = Values → List ℕ → Data → Read A

-- what the member of an object with this name reads as, by the object's path
abbrev pub Member : Type 0 → Type 0
Member A = Values → List ℕ → List ℕ → Data → Read A

-- what the members of an object with these names read as
abbrev pub Table : Type 0 → Type 0
Table A = Values → List ℕ → List (List ℕ) → Data → Read A

-- a value that says something, whatever its path
abbrev pub plain : {A : Type 0} → (Data → Option A) → Kind A
plain says values path d = said path (says d)

-- a member that has to be there
unfoldable pub needed : {A : Type 0} → Kind A → Member A
needed reads values path name d = option_map_or (λ v. reads values (below path name) v) (get name d) (Err (Field (chars (below path name))))

-- a member that may be absent
unfoldable pub optional : {A : Type 0} → Kind A → Member (Option A)
optional reads values path name d = option_map_or (λ v. and_then (reads values (below path name) v) (λ a. Ok (Some a))) (get name d) (Ok None)

abbrev pub no_more : Table (Unit {0})
no_more values path names d = Ok tt

-- the first member, and then those behind it
unfoldable pub and_more : {A B : Type 0} → Member A → Table B → Table (A × B)
and_more first rest values path [] d = Err (BadValue (chars path))
and_more first rest values path (name ∷ names) d = and_then (first values path name d) (λ a. and_then (rest values path names d) (λ b. Ok (a, b)))

-- an object with no member of another name
unfoldable pub only : List ℕ → List (List ℕ) → Data → Read (Unit {0})
only path names d =
    option_map_or (λ members. option_map_or (λ name. Err (Field (chars (below path name)))) (unknown_member names members) (Ok tt))
    (as_object d) (Err (BadValue (chars path)))

-- an object: the least unknown member, and then its members in order
unfoldable pub object_by : {A : Type 0} → List (List ℕ) → Table A → Kind A
object_by names table values path d = and_then (only path names d) (λ u. table values path names d)

abbrev pub sole_in : Members → Option (List ℕ × Data)
sole_in (one_member name d no_members) = Some (name, d)
sole_in _ = None

-- the one member of an object
abbrev pub sole : Data → Option (List ℕ × Data)
sole d = option_and_then sole_in (as_object d)
