-- Lanes commit what the entries make one after another.
use Rattle.std.specs.Prelude.{◌≡◌, ◌+◌, ℕ, List, length, take, slice_get, Option, Some}
use Rattle.cl_c32.specs.declared.principal.Principal.{Principal}
use Rattle.cl_costs.specs.Schedules.{ScheduleSeen}
use Rattle.cl_file.specs.declared.entry.Entry.{Entry}
use Rattle.cl_file.specs.Files.{FileSeen}
use Rattle.cl_tx.specs.declared.outcome.TxResult.{TxResult}
use Rattle.cl_tx.specs.Nodes.{NodeSeen}
use Rattle.cl_tx.specs.Step.{AllStep, Runs, first_node}
use Rattle.cl_touch_sound.specs.Calls.{IsCall}
use Rattle.cl_lanes.specs.declared.moves.Move.{Move}
use Rattle.cl_lanes.specs.declared.moves.Move.TheVariants.{Run, Commit, Barrier}
use Rattle.cl_lanes.specs.Lanes.{HeldSeen, ProgressSeen, first_progress, committed_in, Moves, AllMove}
use Rattle.cl_lanes.specs.Same.{SameProgress}

-- the results are those of the first entries one after another, and the node is the one after them
pub record RanFirst (schedule : ScheduleSeen) (first : NodeSeen) (entries : List Entry) (P : ProgressSeen) : Type 0 where
  pub steps : AllStep schedule first (take (committed_in P) entries) P.results P.node
  pub as_many : length P.wrote ≡ committed_in P

-- whatever the moves are
abbrev pub LanesRunTheEntries : Type 0
LanesRunTheEntries =
    (schedule : ScheduleSeen) (entries : List Entry) (holders : List (Principal × ℕ)) (lanes : ℕ) (moves : List Move) (P : ProgressSeen) →
    AllMove schedule entries (first_progress (first_node holders) lanes) moves P →
    RanFirst schedule (first_node holders) entries P

-- so they are the first results of the file
abbrev pub LanesGiveAPrefix : Type 0
LanesGiveAPrefix =
    (schedule : ScheduleSeen) (file : FileSeen) (results : List TxResult) (after : NodeSeen) (lanes : ℕ) (moves : List Move) (P : ProgressSeen) →
    Runs schedule file results after →
    AllMove schedule file.entries (first_progress (first_node file.genesis) lanes) moves P →
    P.results ≡ take (committed_in P) results

-- a move makes one progress of one, but for the order of spots in lists
abbrev pub MovesHaveOneResult : Type 0
MovesHaveOneResult =
    (schedule : ScheduleSeen) (entries : List Entry) (P Q : ProgressSeen) (move : Move) (R S : ProgressSeen) →
    SameProgress P Q → Moves schedule entries P move R → Moves schedule entries Q move S →
    SameProgress R S

-- ---- entries in their turn

-- one more entry is committed, and neither number has changed
pub record IsOneFurther (P Q : ProgressSeen) : Type 0 where
  pub results : committed_in Q ≡ committed_in P + 1
  pub redone : Q.redone ≡ P.redone
  pub skipped : Q.skipped ≡ P.skipped

-- the next entry, a call, is tried in a lane that exists and then committed
abbrev pub CallsDoneInTurn : Type 0
CallsDoneInTurn =
    (schedule : ScheduleSeen) (entries : List Entry) (P : ProgressSeen) →
    length P.wrote ≡ committed_in P →
    (lane : ℕ) (before : Option HeldSeen) → slice_get P.held lane ≡ Some before →
    (e : Entry) → slice_get entries (committed_in P) ≡ Some e → IsCall e →
    (M Q : ProgressSeen) → Moves schedule entries P (Run lane 0) M →
    Moves schedule entries M (Commit lane) Q → IsOneFurther P Q

-- any other is stepped
abbrev pub BarriersDoneInTurn : Type 0
BarriersDoneInTurn =
    (schedule : ScheduleSeen) (entries : List Entry) (P : ProgressSeen) (e : Entry) →
    slice_get entries (committed_in P) ≡ Some e → (IsCall e → ⊥) →
    (Q : ProgressSeen) → Moves schedule entries P Barrier Q → IsOneFurther P Q
