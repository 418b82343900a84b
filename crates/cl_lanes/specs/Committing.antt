-- A trial that is committed, in the code.
use Rattle.std.specs.Prelude.{◌≡◌, ℕ, List, [], Option}
use Rattle.cl_meaning.specs.Kept.{Kept, Whole}
use Rattle.cl_spots.specs.Spots.{grafted}
use Rattle.cl_nodes.specs.Seen.{Seen}
use Rattle.cl_lanes.specs.declared.held.Held.{Held}
use Rattle.cl_lanes.specs.Ready.{HoldsAt}

-- a lane holds something
pub record HoldsSome (held : List (Option Held)) (lane : ℕ) : Type 0 where
  pub run : Held
  pub there : HoldsAt held lane run

-- a lane holds a trial that may be grafted on a node
pub record MayGraft (n : Seen) (held : List (Option Held)) (lane : ℕ) : Type 0 where
  pub run : Held
  pub there : HoldsAt held lane run
  pub base : run.trial.world.stack.below ≡ []
  pub kept : Kept n.contracts Whole run.trial.world.stack.top

-- a node with a trial's state at the spots that it wrote
abbrev pub grafted_seen : Held → Seen → Seen
grafted_seen h n =
    record n { state = grafted h.footprint.written h.trial.world.stack.top n.state }
