use Rattle.std.proofs.Common.{◌≡◌, ◌∙◌, ◌++◌, ◌∷◌, [], None, ap, refl}
use Rattle.cl_values.specs.Tree.{UintV}
use Rattle.cl_tables.specs.declared.row.RowKind.TheVariants.{Supply}
use Rattle.cl_tables.specs.StateRows.{placed_row, supply_row}
use Rattle.cl_tables.proofs.RowLists.{adds_one}
use Rattle.cl_tables.proofs.MadeRows.{on_ok}
use Rattle.cl_tables.proofs.WholeRows.{fungible_added}
use Rattle.cl_tables.proofs.listing.add_fungible.Goals as goal

pub returns : goal.returns
returns c =
    let at = c.args.at.now in
    let l = c.args.ledger.now.ledger in
    let out = c.args.out.now.items in
    let value : c.uint_value-supply.result ≡ UintV l.supply = c.uint_value-supply.ensures ∙ ap UintV c.supply.ensures.value in
    let row : c.placed_row.result ≡ supply_row at l.supply = c.placed_row.ensures ∙ (λ i. placed_row Supply at None (value i)) in
    let first = adds_one out c.push.new.self.items (supply_row at l.supply) (c.in_ok-push.ensures.items ∙ ap (λ r. out ++ r ∷ []) row) in
    on_ok c.add_holdings.result _ _ (λ more. fungible_added at l out c.push.new.self.items c.add_holdings.new.out.items (supply_row at l.supply) first refl more) c.add_holdings.ensures
