use Rattle.std.proofs.Common.{ℕ, List, ◌∙◌, ap}
use Rattle.std.specs.Prelude.{true, false}
use Rattle.std.specs.List.{list_any}
use Rattle.cl_tables.specs.Spots.{is_entry_at, begins_so, is_wanted, with_rows}
use Rattle.cl_tables.proofs.Joined.{rows_joined, same_tests}
use Rattle.cl_tables.proofs.grafts.graft_entries.Goals as goal

pub returns : goal.returns
returns c =
    let test = begins_so c.in_ok-fronts.fronts.items in
    let from = c.args.from.now.content in
    let old = c.args.old.now.content in
    let first = c.in_ok-put_rows.ensures ∙ (λ i. with_rows (is_wanted false (begins_so (c.as_slice.ensures.value i))) c.in_ok-rows.field-0.items (c.new-table.ensures.content i)) in
    let second = c.in_ok-put_rows-2.ensures ∙ ap (λ fronts. with_rows (is_wanted true (begins_so fronts)) c.in_ok-rows-2.field-0.items c.put_rows.new.table.content) c.as_slice-2.ensures.value in
    same_tests test (λ (key : List ℕ). list_any (is_entry_at key) c.args.spots.now) from old c.put_rows-2.new.table.content c.in_ok-fronts.ensures
    (rows_joined test from old c.put_rows.new.table.content c.put_rows-2.new.table.content c.in_ok-rows.field-0.items c.in_ok-rows-2.field-0.items c.in_ok-rows.ensures c.in_ok-rows-2.ensures first second)
