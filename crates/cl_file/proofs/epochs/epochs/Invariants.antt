use Rattle.std.proofs.Common.{◌≡◌, [], length, drop}
use Rattle.serde_json.specs.View.{items_view}
use Rattle.cl_file.specs.Paths.{each_from}
use Rattle.cl_file.specs.Objects.{Texts}
use Rattle.cl_file.specs.Epochs.{last_height, next_epoch}
use Rattle.cl_costs.specs.Schedules.{RiseFrom}
use Rattle.cl_file.proofs.epochs.epochs.Given as goal

abbrev pub invariant-loop-i : goal.invariant-loop-i
invariant-loop-i l = record {
  height : l.height ≡ last_height 0 l.read.items;
  rises : RiseFrom 1 l.read.items;
  count : length l.read.items ≡ l.i;
  read : (v : Texts) → each_from (next_epoch v.of) l.path l.read.items l.i (items_view (drop l.i l.list)) ≡ each_from (next_epoch v.of) l.path [] 0 (items_view l.list);
}
