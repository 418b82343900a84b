-- What becomes of a lane that is to be committed.
use Rattle.std.specs.Prelude.{◌≡◌, ◌<◌, ◌≤◌, ℕ, Bool, List, Contains, length, drop, slice_get, Option, Some}
use Rattle.std.specs.List.{list_any}
use Rattle.cl_tables.specs.declared.spot.Spot.{Spot}
use Rattle.cl_tables.specs.contracts.spot.SpotPartialEq.TheImpl as spots
use Rattle.cl_lanes.specs.declared.held.Held.{Held}
use Rattle.cl_lanes.specs.declared.ready.Ready.{Ready}
use Rattle.cl_lanes.specs.declared.ready.Ready.TheVariants.{Idle, Past, Stale, Good}
use Rattle.cl_lanes.specs.Lanes.{Spares}

-- a list has an equal spot
abbrev pub is_among : List Spot → Spot → Bool
is_among xs x = list_any (spots.eq-value.it x) xs

-- an entry wrote none of these spots
abbrev pub SparesOne : List Spot → List Spot → Type 0
SparesOne touched wrote = (x : Spot) → Contains touched x → Contains wrote x → ⊥

abbrev pub StartWithin : List (Option Held) → ℕ → Type 0
StartWithin held count =
    (lane : ℕ) (h : Held) → slice_get held lane ≡ Some (Some h) → h.start ≤ count

-- a lane that is there holds this
abbrev pub HoldsAt : List (Option Held) → ℕ → Held → Type 0
HoldsAt held lane h = slice_get held lane ≡ Some (Some h)

abbrev pub IsReady : Ready → List (Option Held) → List (Option (List Spot)) → ℕ → Type 0
IsReady Idle held wrote lane = (h : Held) → HoldsAt held lane h → length wrote < h.entry
IsReady Past held wrote lane = (h : Held) × HoldsAt held lane h × (h.entry < length wrote)
IsReady Stale held wrote lane =
    (h : Held) × HoldsAt held lane h × (h.entry ≡ length wrote)
    × (Spares h.footprint.touched (drop h.start wrote) → ⊥)
IsReady Good held wrote lane =
    (h : Held) × HoldsAt held lane h × (h.entry ≡ length wrote)
    × Spares h.footprint.touched (drop h.start wrote)
