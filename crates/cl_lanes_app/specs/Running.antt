-- A run in lanes, in the code.
use Rattle.std.specs.Prelude.{◌≡◌, ℕ, List, ◌++◌}
use Rattle.cl_shapes.specs.declared.function.CostFn.{CostFn}
use Rattle.cl_file.specs.declared.entry.Entry.{Entry}
use Rattle.cl_file.specs.Files.{FileSeen}
use Rattle.cl_tx.specs.Nodes.{NodeSeen}
use Rattle.cl_tx.specs.Step.{Runs, schedule_of}
use Rattle.cl_report.specs.Lines.{report_from}
use Rattle.cl_nodes.specs.Seen.{Seen}
use Rattle.cl_lanes.specs.Lanes.{ProgressOf, ProgressSeen}
use Rattle.cl_lanes_app.specs.Reports.{AreDrawn, counts_line}
use Rattle.cl_lanes_app.specs.Words.{Request}

-- all entries are committed with their results, and both numbers are those after the drawn moves
pub record RanDrawn (request : Request) (table : List CostFn) (file : FileSeen) (p : ProgressOf Seen) : Type 0 where
  pub node : NodeSeen
  pub runs : Runs (schedule_of table file) file p.results node
  pub after : ProgressSeen
  pub drawn : AreDrawn request.lanes request.seed (schedule_of table file) file after
  pub redone : p.redone ≡ after.redone
  pub skipped : p.skipped ≡ after.skipped

-- the report, and the line of both numbers
abbrev pub IsLanesText : List Entry → ProgressOf Seen → List ℕ → Type 0
IsLanesText entries p text =
    text ≡ report_from 0 entries p.results ++ counts_line p.redone p.skipped
