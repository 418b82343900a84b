use Rattle.std.proofs.Common.{◌≡◌, [], length, drop}
use Rattle.serde_json.specs.View.{items_view}
use Rattle.cl_file.specs.Paths.{each_from}
use Rattle.cl_file.specs.Objects.{Texts}
use Rattle.cl_file.specs.Entries.{height_of, NeverFall, entry_at}
use Rattle.cl_file.proofs.entries.entries.Given as goal

abbrev pub invariant-loop-i : goal.invariant-loop-i
invariant-loop-i l = record {
  height : l.height ≡ height_of 0 l.read.items;
  rises : NeverFall 0 l.read.items;
  count : length l.read.items ≡ l.i;
  read : (v : Texts) → each_from (entry_at v.of) l.path l.read.items l.i (items_view (drop l.i l.list)) ≡ each_from (entry_at v.of) l.path [] 0 (items_view l.list);
}
