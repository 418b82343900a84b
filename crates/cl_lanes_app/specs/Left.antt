-- The moves that do the entries which are left after others, each in its turn.
use Rattle.std.specs.Prelude.{◌≡◌, ◌≤◌, ℕ, List, [], ◌∷◌, ◌++◌, length, drop}
use Rattle.cl_costs.specs.Schedules.{ScheduleSeen}
use Rattle.cl_file.specs.declared.entry.Entry.{Entry}
use Rattle.cl_file.specs.declared.entry.Entry.TheVariants as entry
use Rattle.cl_file.specs.Files.{FileSeen}
use Rattle.cl_tx.specs.Step.{first_node}
use Rattle.cl_lanes.specs.declared.moves.Move.{Move}
use Rattle.cl_lanes.specs.declared.moves.Move.TheVariants.{Run, Commit, Barrier}
use Rattle.cl_lanes.specs.Lanes.{AllMove, ProgressSeen, committed_in, first_progress}

-- a call is tried in the first lane and committed, any other entry is stepped
abbrev pub moves_for : Entry → List Move
moves_for (entry.Call common contract function args) = Run 0 0 ∷ Commit 0 ∷ []
moves_for e = Barrier ∷ []

abbrev pub moves_for_each : List Entry → List Move
moves_for_each [] = []
moves_for_each (e ∷ es) = moves_for e ++ moves_for_each es

-- all entries are committed, and neither number has changed
pub record CommitsAll (entries : List Entry) (before after : ProgressSeen) : Type 0 where
  pub all : committed_in after ≡ length entries
  pub redone : after.redone ≡ before.redone
  pub skipped : after.skipped ≡ before.skipped

-- whatever moves of a file's lanes were made before
abbrev pub LeftEntriesKeepNumbers : Type 0
LeftEntriesKeepNumbers =
    (schedule : ScheduleSeen) (file : FileSeen) (lanes : ℕ) (moves : List Move) (before after : ProgressSeen) →
    1 ≤ lanes →
    AllMove schedule file.entries (first_progress (first_node file.genesis) lanes) moves before →
    AllMove schedule file.entries before (moves_for_each (drop (committed_in before) file.entries)) after →
    CommitsAll file.entries before after
