-- Laws of spots.
use Rattle.std.specs.Prelude.{◌≡◌, List, Contains}
use Rattle.cl_events.specs.State.{State}
use Rattle.cl_tables.specs.declared.spot.Spot.{Spot}
use Rattle.cl_spots.specs.Spots.{IsSpot, AgreeAt, Agree, IsChangedAt, grafted}

-- a grafted state agrees at the spots with the one that it was grafted from
abbrev pub GraftsAgree : Type 0
GraftsAgree =
    (spots : List Spot) (from s : State) → Agree (Contains spots) (grafted spots from s) from

-- and is changed there alone
abbrev pub GraftsChangeSpotsAlone : Type 0
GraftsChangeSpotsAlone =
    (spots : List Spot) (from s : State) → IsChangedAt (Contains spots) s (grafted spots from s)

-- and there is no other such state: what agrees there and is changed there alone is the graft
abbrev pub GraftsAreAll : Type 0
GraftsAreAll =
    (spots : List Spot) (from s t : State) → Agree (Contains spots) t from
    → IsChangedAt (Contains spots) s t → t.events ≡ s.events → t.moves ≡ s.moves
    → t ≡ grafted spots from s

-- a state that was changed at some spots alone agrees with the one before at each other spot
abbrev pub OthersAgree : Type 0
OthersAgree =
    (spots : List Spot) → ((x : Spot) → Contains spots x → IsSpot x) → (s t : State)
    → IsChangedAt (Contains spots) s t → (x : Spot) → IsSpot x → (Contains spots x → ⊥)
    → AgreeAt t s x

-- one change after another
abbrev pub ChangesFollow : Type 0
ChangesFollow =
    (spots : List Spot) (s t u : State) → IsChangedAt (Contains spots) s t
    → IsChangedAt (Contains spots) t u → IsChangedAt (Contains spots) s u
