use Rattle.std.proofs.Common.{◌∙◌, ap, sym}
use Rattle.std.specs.Vec.Iter.{into_iter_items}
use Rattle.cl_tables.specs.Spots.{begins_so, is_wanted, with_rows}
use Rattle.cl_tables.proofs.grafts.put_rows.Goals as goal

pub loop-key-preserved : goal.loop-key-preserved
loop-key-preserved c =
    let test = is_wanted c.args.wanted (begins_so c.args.fronts.now) in
    ap (with_rows test (into_iter_items c.next.new.self)) c.in_ok-put_row.ensures
    ∙ ap (λ xs. with_rows test xs c.loop-key.table.content) (sym c.in-Some.ensures.steps.0)
    ∙ c.loop-key.invariant
