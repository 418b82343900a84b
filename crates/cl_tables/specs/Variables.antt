-- The places of what contracts keep.
use Rattle.std.specs.Prelude.{ℕ, ◌≡◌, List}
use Rattle.cl_types.specs.Name.{IsName}
use Rattle.cl_values.specs.Valid.{IsPrincipal}
use Rattle.cl_events.specs.State.{place}
use Rattle.cl_tables.specs.declared.place.Place.{Place}

-- of a principal and a name
abbrev pub IsPlace : Place → Type 0
IsPlace at = IsPrincipal at.contract × IsName at.name

-- the key under which a state keeps what has a place
abbrev pub key_of : Place → List ℕ
key_of at = place at.contract at.name

-- the key of what has a place
abbrev pub IsPlaceKey : List ℕ → Type 0
IsPlaceKey key = (at : Place) × IsPlace at × (key ≡ key_of at)
