-- A run in lanes, and its report.
use Rattle.std.proofs.Common.{◌≡◌, ℕ, ◌*◌, List, ◌++◌, length, sym, ap, subst, ◌∙◌}
use Rattle.cl_shapes.specs.declared.function.CostFn.{CostFn}
use Rattle.cl_costs.specs.Schedules.{ScheduleSeen}
use Rattle.cl_file.specs.Files.{FileSeen}
use Rattle.cl_tx.specs.Step.{first_node, schedule_of}
use Rattle.cl_report.specs.Lines.{report_from}
use Rattle.cl_nodes.specs.Seen.{Seen}
use Rattle.cl_lanes.specs.declared.moves.Move.{Move}
use Rattle.cl_lanes.specs.InTurn.{EndsAs, RanAllOf}
use Rattle.cl_lanes.specs.Lanes.{ProgressOf, ProgressSeen}
use Rattle.cl_entries.specs.declared.status.Reply.{Reply}
use Rattle.cl_entries.specs.declared.status.Status.TheVariants.{Done}
use Rattle.cl_entries.proofs.Scripts.{each_result}
use Rattle.cl_lanes_app.specs.Draws.{drawn_moves}
use Rattle.cl_lanes_app.specs.Reports.{IsLanesReport, counts_line}
use Rattle.cl_lanes_app.specs.Running.{IsLanesText, RanDrawn}
use Rattle.cl_lanes_app.specs.Words.{Request}

pub ran_drawn : (request : Request) (table : List CostFn) (file : FileSeen) (schedule : ScheduleSeen) (count : ℕ) (moves : List Move) (p : ProgressOf Seen) → schedule ≡ schedule_of table file → moves ≡ drawn_moves request.lanes request.seed count → count ≡ 2 * length file.entries
    → EndsAs schedule file request.lanes moves p → RanAllOf schedule file p → RanDrawn request table file p
ran_drawn request table file schedule count moves p is_schedule are_moves is_count ends all =
    let drawn : moves ≡ drawn_moves request.lanes request.seed (2 * length file.entries) = are_moves ∙ ap (drawn_moves request.lanes request.seed) is_count in
    let ended : EndsAs (schedule_of table file) file request.lanes (drawn_moves request.lanes request.seed (2 * length file.entries)) p =
    subst (λ (x : ScheduleSeen × List Move). EndsAs x.0 file request.lanes x.1 p) (λ i. (is_schedule i, drawn i)) ends
    in
    let ran : RanAllOf (schedule_of table file) file p = subst (λ (s : ScheduleSeen). RanAllOf s file p) is_schedule all in
    record {
      node = ran.node;
      runs = ran.runs;
      after = ended.made.to;
      drawn = record { moved = ended.made.moved };
      redone = ended.counts.redone ∙ sym (ap (λ (P : ProgressSeen). P.redone) ended.made.is_to.is);
      skipped = ended.counts.skipped ∙ sym (ap (λ (P : ProgressSeen). P.skipped) ended.made.is_to.is);
    }

pub as_many : (request : Request) (table : List CostFn) (file : FileSeen) (p : ProgressOf Seen) → RanDrawn request table file p → length p.results ≡ length file.entries
as_many request table file p ran = sym (each_result (schedule_of table file) (first_node file.genesis) file.entries p.results ran.node ran.runs.steps)

pub is_report : (request : Request) (table : List CostFn) (file : FileSeen) (p : ProgressOf Seen) (text : List ℕ) (reply : Reply) → RanDrawn request table file p → IsLanesText file.entries p text → reply ≡ record { text = text; status = Done } → IsLanesReport request table file reply
is_report request table file p text reply ran is_text is = record {
  results = p.results;
  node = ran.node;
  runs = ran.runs;
  after = ran.after;
  drawn = ran.drawn;
  is = is ∙ (λ i. record { text = (is_text ∙ (λ j. report_from 0 file.entries p.results ++ counts_line (ran.redone j) (ran.skipped j))) i; status = Done });
}
