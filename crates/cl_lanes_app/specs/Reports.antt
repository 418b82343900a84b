-- What a run in lanes writes: the report of the entries, as `run` writes it, and the line of the two numbers.
use Rattle.std.specs.Prelude.{◌≡◌, ◌*◌, ℕ, List, ◌++◌, codes, decimal, length, Option, Some, None}
use Rattle.cl_shapes.specs.declared.function.CostFn.{CostFn}
use Rattle.cl_costs.specs.Schedules.{ScheduleSeen}
use Rattle.cl_file.specs.Files.{FileSeen}
use Rattle.cl_tx.specs.declared.outcome.TxResult.{TxResult}
use Rattle.cl_tx.specs.Nodes.{NodeSeen}
use Rattle.cl_tx.specs.Step.{Runs, first_node, schedule_of}
use Rattle.cl_report.specs.Lines.{report_from}
use Rattle.cl_lanes.specs.Lanes.{AllMove, ProgressSeen, first_progress}
use Rattle.cl_entries.specs.declared.status.Reply.{Reply}
use Rattle.cl_entries.specs.declared.status.Status.TheVariants.{Done, Usage}
use Rattle.cl_replies.specs.Inputs.{Inputs, BadFile, NoCommand, RunInputs, bad_file_reply}
use Rattle.cl_lanes_app.specs.Draws.{drawn_moves}
use Rattle.cl_lanes_app.specs.Words.{Request}

-- how often a trial was thrown away, and how often a move did nothing
unfoldable pub counts_line : ℕ → ℕ → List ℕ
counts_line redone skipped =
    codes "lanes redone " ++ (decimal redone ++ (codes " skipped " ++ (decimal skipped ++ codes "\n")))

-- what the drawn moves, twice as many as there are entries, make of the first node; those that then do the entries which are left
-- change neither number (`LeftEntriesKeepNumbers`)
pub record AreDrawn (lanes seed : ℕ) (schedule : ScheduleSeen) (file : FileSeen) (after : ProgressSeen) : Type 0 where
  pub moved :
      AllMove schedule file.entries (first_progress (first_node file.genesis) lanes)
      (drawn_moves lanes seed (2 * length file.entries)) after

-- the reply to a request, for a table and a file: the results are those of the entries one after another
pub record IsLanesReport (request : Request) (table : List CostFn) (file : FileSeen) (reply : Reply) : Type 0 where
  pub results : List TxResult
  pub node : NodeSeen
  pub runs : Runs (schedule_of table file) file results node
  pub after : ProgressSeen
  pub drawn : AreDrawn request.lanes request.seed (schedule_of table file) file after
  pub is : reply ≡ record {
    text = report_from 0 file.entries results ++ counts_line after.redone after.skipped;
    status = Done;
  }

-- words that aren't of the shape
abbrev pub usage_reply : Reply
usage_reply = record { text = codes "usage: clarity_lanes LANES SEED COSTS TXFILE\n"; status = Usage }

-- The reply to a request, or to other words, with these inputs. Where a file isn't held that is reached, the read has failed, and
-- there is none.
abbrev pub IsLanesReply : Option Request → Inputs → Reply → Type 0
IsLanesReply None NoCommand reply = reply ≡ usage_reply
IsLanesReply (Some request) (BadFile name fault) reply = reply ≡ bad_file_reply name fault
IsLanesReply (Some request) (RunInputs table file state) reply = IsLanesReport request table file reply
IsLanesReply request inputs reply = ⊥
