-- An index of forms by the names that they define.
use Rattle.std.specs.Prelude.{◌≡◌, ℕ, Bool, true, false, List, [], ◌∷◌, Option, Some, None, Vec}
use Rattle.std.specs.declared.alloc.Global.{Global}
use Rattle.indexmap.specs.IndexMap.{IndexMap, get}
use Rattle.cl_keyed.specs.declared.hash_key.HashKey.{HashKey}
use Rattle.cl_forms.specs.Forms.{Form}
use Rattle.cl_forms.specs.Names.{same, places_from}

-- the rows of places, each under its name
abbrev pub Rows : Type 0
Rows = IndexMap (List ℕ) (Vec ℕ Global) HashKey

-- the places of a row, none where there is no row
abbrev pub listed : Option (Vec ℕ Global) → List ℕ
listed None = []
listed (Some row) = row.items

-- the places under a name
abbrev pub under : Rows → List ℕ → List ℕ
under rows x = listed (get same rows x)

-- a place, or none
abbrev pub place_if : Bool → ℕ → List ℕ
place_if true n = n ∷ []
place_if false n = []

-- under each name stand the places of the forms that define it, in the order of the text
unfoldable pub IsIndex : List Form → Rows → Type 0
IsIndex forms rows = (x : List ℕ) → under rows x ≡ places_from 0 (x ∷ []) forms
