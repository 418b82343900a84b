-- Lanes: calls are tried ahead of their turn on the present node, and committed in the order of the file.
use Rattle.std.specs.Prelude.{◌≡◌, ◌<◌, ◌+◌, ◌⊎◌, ℕ, List, [], ◌∷◌, ◌++◌, Contains, length, drop, replicate, slice_get, slice_set, Option, Some, None}
use Rattle.cl_events.specs.State.{State}
use Rattle.cl_costs.specs.Schedules.{ScheduleSeen}
use Rattle.cl_file.specs.declared.entry.Entry.{Entry}
use Rattle.cl_tx.specs.declared.outcome.TxResult.{TxResult}
use Rattle.cl_tx.specs.Nodes.{NodeSeen, Stepped}
use Rattle.cl_tx.specs.Step.{Steps}
use Rattle.cl_tables.specs.declared.spot.Spot.{Spot}
use Rattle.cl_touch_sound.specs.Calls.{IsCall, IsFootprintOf}
use Rattle.cl_touch_sound.specs.Laws.{grafted_step}
use Rattle.cl_lanes.specs.declared.moves.Move.{Move}
use Rattle.cl_lanes.specs.declared.moves.Move.TheVariants.{Run, Commit, Barrier}

-- What a lane holds: the place of a call in the file, how many entries were committed when it was tried, the trial's result and
-- the state after it, and the spots that the call touches and writes.
pub record HeldSeen : Type 0 where
  pub entry : ℕ
  pub start : ℕ
  pub result : TxResult
  pub state : State
  pub touched : List Spot
  pub written : List Spot

-- The node; the results of the committed entries, and for each its written spots, or None where it was a barrier; what each lane
-- holds; how often a trial was thrown away; and how often a move did nothing.
pub record ProgressOf (Node : Type 0) : Type 0 where
  pub node : Node
  pub results : List TxResult
  pub wrote : List (Option (List Spot))
  pub held : List (Option HeldSeen)
  pub redone : ℕ
  pub skipped : ℕ

abbrev pub ProgressSeen : Type 0
ProgressSeen = ProgressOf NodeSeen

-- nothing is committed, and each lane is empty
abbrev pub first_progress : {Node : Type 0} → Node → ℕ → ProgressOf Node
first_progress node lanes =
    record { node = node; results = []; wrote = []; held = replicate lanes None; redone = 0; skipped = 0 }

-- how many entries were committed
abbrev pub committed_in : {Node : Type 0} → ProgressOf Node → ℕ
committed_in P = length P.results

-- ---- whether a trial may be committed

-- each of these entries was a call that wrote none of these spots
abbrev pub Spares : List Spot → List (Option (List Spot)) → Type 0
Spares touched [] = Unit {0}
Spares touched (None ∷ more) = ⊥
Spares touched (Some wrote ∷ more) =
    ((x : Spot) → Contains touched x → Contains wrote x → ⊥) × Spares touched more

-- no barrier, and no entry that wrote a spot touched by the call, was committed since its trial began
abbrev pub IsGood : {Node : Type 0} → ProgressOf Node → HeldSeen → Type 0
IsGood P h = Spares h.touched (drop h.start P.wrote)

-- ---- changes

abbrev pub with_lane : {Node : Type 0} → ℕ → Option HeldSeen → ProgressOf Node → ProgressOf Node
with_lane lane h P = record P { held = slice_set P.held lane h }

-- one more entry is committed
abbrev pub with_entry : {Node : Type 0} → Node → TxResult → Option (List Spot) → ProgressOf Node → ProgressOf Node
with_entry node result wrote P =
    record P { node = node; results = P.results ++ result ∷ []; wrote = P.wrote ++ wrote ∷ [] }

abbrev pub with_step : Stepped → Option (List Spot) → ProgressSeen → ProgressSeen
with_step s wrote P = with_entry s.node s.result wrote P

abbrev pub with_redone : {Node : Type 0} → ProgressOf Node → ProgressOf Node
with_redone P = record P { redone = P.redone + 1 }

abbrev pub with_skipped : {Node : Type 0} → ProgressOf Node → ProgressOf Node
with_skipped P = record P { skipped = P.skipped + 1 }

-- the trial of entry c + ahead
abbrev pub trial_of : ℕ → ℕ → Stepped → List Spot → List Spot → HeldSeen
trial_of c ahead trial touched written = record {
  entry = c + ahead;
  start = c;
  result = trial.result;
  state = trial.node.state;
  touched = touched;
  written = written;
}

-- ---- moves

-- a move that has nothing to do
abbrev pub IsIdle : {Node : Type 0} → List Entry → ProgressOf Node → Move → Type 0
IsIdle entries P (Run lane ahead) =
    (slice_get P.held lane ≡ None)
    ⊎ ((e : Entry) → slice_get entries (committed_in P + ahead) ≡ Some e → IsCall e → ⊥)
IsIdle entries P (Commit lane) =
    (h : HeldSeen) → slice_get P.held lane ≡ Some (Some h) → committed_in P < h.entry
IsIdle entries P Barrier = (e : Entry) → slice_get entries (committed_in P) ≡ Some e → IsCall e

-- what a move makes of a progress through the entries of a file, under a schedule of costs
pub data Moves (schedule : ScheduleSeen) (entries : List Entry) (P : ProgressSeen) : Move → ProgressSeen → Type 0 where
  -- a lane holds the trial of a call on the present node, in place of what it held
  runs : (lane ahead : ℕ) (before : Option HeldSeen) (e : Entry) (trial : Stepped) (touched written : List Spot) →
      slice_get P.held lane ≡ Some before →
      slice_get entries (committed_in P + ahead) ≡ Some e →
      IsFootprintOf P.node.contracts e touched written →
      Steps schedule P.node e trial →
      Moves schedule entries P (Run lane ahead) (with_lane lane (Some (trial_of (committed_in P) ahead trial touched written)) P)
  -- a lane holds the next entry, and its trial may be committed: its written spots are grafted
  commits : (lane : ℕ) (h : HeldSeen) → slice_get P.held lane ≡ Some (Some h) →
      h.entry ≡ committed_in P → IsGood P h →
      Moves schedule entries P (Commit lane) (with_lane lane None (with_step (grafted_step h.written h.result h.state P.node) (Some h.written) P))
  -- it may not, and is thrown away
  redoes : (lane : ℕ) (h : HeldSeen) → slice_get P.held lane ≡ Some (Some h) →
      h.entry ≡ committed_in P → (IsGood P h → ⊥) →
      Moves schedule entries P (Commit lane) (with_lane lane None (with_redone P))
  -- a lane holds an entry that was committed
  empties : (lane : ℕ) (h : HeldSeen) → slice_get P.held lane ≡ Some (Some h) →
      h.entry < committed_in P →
      Moves schedule entries P (Commit lane) (with_lane lane None (with_skipped P))
  -- a deployment or a block is stepped
  steps : (e : Entry) (s : Stepped) → slice_get entries (committed_in P) ≡ Some e →
      (IsCall e → ⊥) → Steps schedule P.node e s →
      Moves schedule entries P Barrier (with_step s None P)
  -- every other move does nothing
  skips : (move : Move) → IsIdle entries P move → Moves schedule entries P move (with_skipped P)

-- moves one after another
abbrev pub AllMove : ScheduleSeen → List Entry → ProgressSeen → List Move → ProgressSeen → Type 0
AllMove schedule entries P [] Q = Q ≡ P
AllMove schedule entries P (move ∷ moves) Q =
    (M : ProgressSeen) × Moves schedule entries P move M × AllMove schedule entries M moves Q
