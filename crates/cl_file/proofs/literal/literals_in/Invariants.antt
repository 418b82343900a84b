use Rattle.std.proofs.Common.{◌≡◌, [], drop}
use Rattle.serde_json.specs.View.{items_view}
use Rattle.cl_file.specs.Objects.{Texts}
use Rattle.cl_file.specs.Kinds.{literals_from}
use Rattle.cl_file.proofs.literal.literals_in.Given as goal

abbrev pub invariant-loop-i : goal.invariant-loop-i
invariant-loop-i l =
    (v : Texts) → literals_from v.of l.values.items (items_view (drop l.i l.list)) ≡ literals_from v.of [] (items_view l.list)
