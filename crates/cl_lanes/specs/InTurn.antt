-- Entries that are done in their turn, after moves of lanes.
use Rattle.std.specs.Prelude.{◌≡◌, ◌≤◌, ◌+◌, ℕ, List, length, slice_get, Some}
use Rattle.cl_costs.specs.Schedules.{ScheduleSeen}
use Rattle.cl_file.specs.declared.entry.Entry.{Entry}
use Rattle.cl_file.specs.Files.{FileSeen}
use Rattle.cl_tx.specs.Nodes.{NodeSeen}
use Rattle.cl_tx.specs.Step.{Runs}
use Rattle.cl_nodes.specs.Known.{IsNodeOf}
use Rattle.cl_nodes.specs.Seen.{Seen}
use Rattle.cl_lanes.specs.declared.moves.Move.{Move}
use Rattle.cl_lanes.specs.Lanes.{ProgressOf, committed_in}
use Rattle.cl_lanes.specs.Progress.{MakesMoves, Rises}

-- some moves made this progress of the first node of a file, with one lane at least
pub record IsReached (schedule : ScheduleSeen) (file : FileSeen) (p : ProgressOf Seen) : Type 0 where
  pub lanes : ℕ
  pub moves : List Move
  pub some : 1 ≤ lanes
  pub made : MakesMoves schedule file lanes moves p
  pub within : committed_in p ≤ length file.entries

-- it is such a one, and there is an entry to be done, which may follow
pub record IsNext (schedule : ScheduleSeen) (file : FileSeen) (p : ProgressOf Seen) : Type 0 where
  pub reached : IsReached schedule file p
  pub entry : Entry
  pub there : slice_get file.entries (committed_in p) ≡ Some entry
  pub rises : Rises file.entries p

-- neither number has changed
pub record SameCounts (p q : ProgressOf Seen) : Type 0 where
  pub redone : q.redone ≡ p.redone
  pub skipped : q.skipped ≡ p.skipped

-- the next entry was done
pub record IsOneLater (schedule : ScheduleSeen) (file : FileSeen) (p q : ProgressOf Seen) : Type 0 where
  pub reached : IsReached schedule file q
  pub count : committed_in q ≡ committed_in p + 1
  pub counts : SameCounts p q

-- the entries that were left are done
pub record RanRest (schedule : ScheduleSeen) (file : FileSeen) (p q : ProgressOf Seen) : Type 0 where
  pub reached : IsReached schedule file q
  pub all : committed_in q ≡ length file.entries
  pub counts : SameCounts p q

-- both numbers are those after these moves
pub record EndsAs (schedule : ScheduleSeen) (file : FileSeen) (lanes : ℕ) (moves : List Move) (p : ProgressOf Seen) : Type 0 where
  pub after : ProgressOf Seen
  pub made : MakesMoves schedule file lanes moves after
  pub counts : SameCounts after p

-- the results are those of all entries, and the node is the one after them
pub record RanAllOf (schedule : ScheduleSeen) (file : FileSeen) (p : ProgressOf Seen) : Type 0 where
  pub node : NodeSeen
  pub is_node : IsNodeOf p.node node
  pub runs : Runs schedule file p.results node
