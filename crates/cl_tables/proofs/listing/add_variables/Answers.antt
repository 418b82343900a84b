use Rattle.cl_tables.specs.Variables.{IsPlaceKey}
use Rattle.cl_tables.proofs.RowLists.{rows_have}
use Rattle.cl_tables.proofs.MadeRows.{on_ok, variables_added}
use Rattle.cl_tables.proofs.listing.add_variables.Goals as goal

pub list_variables-requires : goal.list_variables-requires
list_variables-requires c = rows_have (λ key v. IsPlaceKey key) c.in_ok-rows.field-0.items c.args.variables.now.content c.in_ok-rows.ensures c.requires

pub returns : goal.returns
returns c =
    on_ok c.list_variables.result _ _ (λ lists.
    variables_added c.args.variables.now.content c.in_ok-rows.field-0.items c.args.out.now.items c.list_variables.new.out.items c.in_ok-rows.ensures lists)
    c.list_variables.ensures
