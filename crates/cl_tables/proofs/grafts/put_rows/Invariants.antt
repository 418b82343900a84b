use Rattle.std.proofs.Common.{◌≡◌}
use Rattle.std.specs.Vec.Iter.{into_iter_items}
use Rattle.cl_tables.specs.Spots.{begins_so, is_wanted, with_rows}
use Rattle.cl_tables.proofs.grafts.put_rows.Given as goal

abbrev pub invariant-loop-key : goal.invariant-loop-key
invariant-loop-key l =
    with_rows (is_wanted l.wanted (begins_so l.fronts)) (into_iter_items l.key-iterator) l.table.content ≡ with_rows (is_wanted l.wanted (begins_so l.fronts)) l.fn.rows.items l.fn.table.content
