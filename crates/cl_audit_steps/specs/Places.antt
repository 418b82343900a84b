-- The places of names in a list.
use Rattle.std.specs.Prelude.{◌≡◌, ℕ, suc, List, [], ◌∷◌, ◌++◌, map, is_some, if◌then◌else◌, Option, Some, None, option_map}
use Rattle.cl_values.specs.Tree.{Tree as Val}
use Rattle.cl_forms.specs.Forms.{Form}
use Rattle.cl_forms.specs.Names.{named_in}
use Rattle.cl_meaning.specs.Deployed.{has_name}

-- the place of the first of these that is a name
abbrev pub first_place : List ℕ → List (Option (List ℕ)) → Option ℕ
first_place x [] = None
first_place x (n ∷ ns) = if has_name x n then Some 0 else option_map suc (first_place x ns)

-- a table has the place of the first of each name
pub record ArePlaces (names : List (Option (List ℕ))) (places : List (List ℕ × ℕ)) : Type 0 where
  pub each : (x : List ℕ) → named_in x places ≡ first_place x names

-- the names of forms, and of values
abbrev pub form_names : List Form → List (Option (List ℕ))
form_names fs = map (λ f. f.name) fs

abbrev pub value_names : List (List ℕ × Val) → List (Option (List ℕ))
value_names es = map (λ e. Some e.0) es

-- a name gets a place, unless it has one
abbrev pub with_place : List ℕ → ℕ → List (List ℕ × ℕ) → List (List ℕ × ℕ)
with_place x n places = if is_some (named_in x places) then places else places ++ (x, n) ∷ []
