use Rattle.std.proofs.Common.{sym, subst}
use Rattle.std.specs.List.{AllByRecursion}
use Rattle.cl_tables.specs.Spelled.{IsHolder, IsAsset}
use Rattle.cl_tables.specs.RowParts.{IsOwnerRow, Lists}
use Rattle.cl_tables.proofs.RowLists.{rows_have}
use Rattle.cl_tables.proofs.MadeRows.{on_ok, owners_added}
use Rattle.cl_tables.proofs.listing.add_nonfungible.Goals as goal

pub list_owners-requires-clause-assets : goal.list_owners-requires-clause-assets
list_owners-requires-clause-assets c =
    subst (AllByRecursion (λ e. IsAsset e.0)) (sym c.deref.ensures.value) (rows_have (λ key owner. IsAsset key) c.in_ok-assets.assets.items c.args.owners.now.owners c.in_ok-assets.ensures (λ key a is. (c.requires key a is).0))

pub list_owners-requires-clause-owners : goal.list_owners-requires-clause-owners
list_owners-requires-clause-owners c =
    subst (AllByRecursion (λ e. IsHolder e.1)) (sym c.deref.ensures.value) (rows_have (λ key owner. IsHolder owner) c.in_ok-assets.assets.items c.args.owners.now.owners c.in_ok-assets.ensures (λ key a is. (c.requires key a is).1))

pub returns : goal.returns
returns c =
    on_ok c.list_owners.result _ _ (λ lists.
    owners_added c.one_spelling.ensures.own c.args.at.now c.args.owners.now.owners c.in_ok-assets.assets.items c.args.out.now.items c.list_owners.new.out.items c.in_ok-assets.ensures
    (subst (λ es. Lists (IsOwnerRow c.args.at.now) es c.args.out.now.items c.list_owners.new.out.items) c.deref.ensures.value lists))
    c.list_owners.ensures
