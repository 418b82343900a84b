-- What a lane holds in the code, and what the type of a progress keeps of it.
use Rattle.std.specs.Prelude.{◌≡◌, ◌<◌, ◌≤◌, ℕ, List, [], ◌∷◌, length, drop, map, slice_get, Option, Some, None}
use Rattle.std.specs.Option.{option_map}
use Rattle.cl_costs.specs.Schedules.{ScheduleSeen}
use Rattle.cl_meaning.specs.Kept.{Kept, Whole}
use Rattle.cl_file.specs.declared.entry.Entry.{Entry}
use Rattle.cl_tables.specs.declared.spot.Spot.{Spot}
use Rattle.cl_touch_sound.specs.Calls.{IsFootprintOf}
use Rattle.cl_nodes.specs.Seen.{Seen}
use Rattle.cl_nodes.specs.Steps.{Makes}
use Rattle.cl_lanes.specs.declared.held.Held.{Held}
use Rattle.cl_lanes.specs.Lanes.{HeldSeen}

abbrev pub held_seen : Held → HeldSeen
held_seen h = record {
  entry = h.entry;
  start = h.start;
  result = h.trial.result;
  state = h.trial.world.stack.top;
  touched = h.footprint.touched;
  written = h.footprint.written;
}

abbrev pub lane_seen : Option Held → Option HeldSeen
lane_seen h = option_map held_seen h

abbrev pub lanes_seen : List (Option Held) → List (Option HeldSeen)
lanes_seen held = map lane_seen held

-- the trial of a call on a node, with its spots
pub record IsTrial (schedule : ScheduleSeen) (n : Seen) (e : Entry) (h : Held) : Type 0 where
  pub makes : Makes schedule n e h.trial.result (record n { state = h.trial.world.stack.top })
  pub base : h.trial.world.stack.below ≡ []
  pub kept : Kept n.contracts Whole h.trial.world.stack.top
  pub footprint : IsFootprintOf n.contracts e h.footprint.touched h.footprint.written

-- ---- what is kept

-- none of these entries was a barrier
abbrev pub NoBarrier : List (Option (List Spot)) → Type 0
NoBarrier [] = Unit {0}
NoBarrier (None ∷ more) = ⊥
NoBarrier (Some wrote ∷ more) = NoBarrier more

-- Its entry can be one of a file; its trial began at or before the present node; the world has no layer above the base; and where
-- no barrier was committed since, the state is as the node's contracts say.
pub record IsHeldIn (n : Seen) (wrote : List (Option (List Spot))) (h : Held) : Type 0 where
  pub entry : h.entry < 100000
  pub start : h.start ≤ length wrote
  pub base : h.trial.world.stack.below ≡ []
  pub kept : NoBarrier (drop h.start wrote) → Kept n.contracts Whole h.trial.world.stack.top

-- each lane that isn't empty holds such a trial
abbrev pub EachHeld : Seen → List (Option (List Spot)) → List (Option Held) → Type 0
EachHeld n wrote held =
    (lane : ℕ) (h : Held) → slice_get held lane ≡ Some (Some h) → IsHeldIn n wrote h

-- as many entries have results as have written spots, at most 100,000, and each held trial is such a one
pub record AreLanes (n : Seen) (count : ℕ) (wrote : List (Option (List Spot))) (held : List (Option Held)) : Type 0 where
  pub as_many : length wrote ≡ count
  pub few : count ≤ 100000
  pub each : EachHeld n wrote held
