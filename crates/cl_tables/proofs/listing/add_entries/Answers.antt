use Rattle.cl_tables.specs.Spelled.{IsSpot}
use Rattle.cl_tables.proofs.RowLists.{rows_have}
use Rattle.cl_tables.proofs.MadeRows.{on_ok, entries_added}
use Rattle.cl_tables.proofs.listing.add_entries.Goals as goal

pub list_entries-requires : goal.list_entries-requires
list_entries-requires c = rows_have (λ key v. IsSpot key) c.in_ok-rows.field-0.items c.args.entries.now.content c.in_ok-rows.ensures c.requires

pub returns : goal.returns
returns c =
    on_ok c.list_entries.result _ _ (λ lists.
    entries_added c.one_spelling.ensures.own c.args.entries.now.content c.in_ok-rows.field-0.items c.args.out.now.items c.list_entries.new.out.items c.in_ok-rows.ensures lists)
    c.list_entries.ensures
