use Rattle.std.proofs.Common.{◌≡◌, [], drop}
use Rattle.serde_json.specs.View.{items_view}
use Rattle.cl_file.specs.Paths.{each_from}
use Rattle.cl_file.specs.Objects.{Texts}
use Rattle.cl_file.specs.Files.{holder_at, AreOnce}
use Rattle.cl_file.proofs.holders.fill.Given as goal

abbrev pub invariant-loop-i : goal.invariant-loop-i
invariant-loop-i l = record {
  once : AreOnce [] l.held.entries;
  read : (v : Texts) → each_from (holder_at v.of) l.path l.held.entries l.i (items_view (drop l.i l.list)) ≡ each_from (holder_at v.of) l.path [] 0 (items_view l.list);
}
