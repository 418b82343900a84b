-- Paths, readings one after another, and the items of an array.
use Rattle.std.specs.Prelude.{ℕ, ◌+◌, ◌++◌, List, [], ◌∷◌, codes, decimal, Option, Result, Ok, Err}
use Rattle.std.specs.Option.{option_map_or}
use Rattle.std.specs.Str.{chars}
use Rattle.serde_json.specs.Data.{Data, Items, no_items, item}
use Rattle.cl_file.specs.declared.refusal.TxRefusal.{TxRefusal}
use Rattle.cl_file.specs.declared.refusal.TxRefusal.TheVariants.{BadValue}

-- what comes of reading
abbrev pub Read : Type 0 → Type 0
Read A = Result A TxRefusal

-- the path of a member or an item
abbrev pub below : List ℕ → List ℕ → List ℕ
below path name = path ++ (codes "/" ++ name)

-- first one reading, and where it gives something the next
unfoldable pub and_then : {A B : Type 0} → Read A → (A → Read B) → Read B
and_then (Ok a) next = next a
and_then (Err r) next = Err r

-- what a value at the path says
unfoldable pub said : {A : Type 0} → List ℕ → Option A → Read A
said path o = option_map_or Ok o (Err (BadValue (chars path)))

-- the items of an array behind those that were read, each at its own path; what an item reads as may go by those before it
unfoldable pub each_from : {A : Type 0} → (List A → List ℕ → Data → Read A) → List ℕ → List A → ℕ → Items → Read (List A)
each_from reads path done i no_items = Ok done
each_from reads path done i (item d ds) = and_then (reads done (below path (decimal i)) d) (λ a. each_from reads path (done ++ a ∷ []) (i + 1) ds)
