use Rattle.std.proofs.Common.{refl, sym, subst}
use Rattle.std.proofs.lemmas.List.{take_all}
use Rattle.std.proofs.lemmas.List.Elements.{All-from_recursion}
use Rattle.cl_tables.specs.Spelled.{IsHolder, IsAsset}
use Rattle.cl_tables.specs.RowParts.{IsOwnerRow, Lists}
use Rattle.cl_tables.proofs.RowLists.{listed_none, listed_next}
use Rattle.cl_tables.proofs.listing.list_owners.Goals as goal

pub loop-asset-init : goal.loop-asset-init
loop-asset-init c = listed_none (IsOwnerRow c.args.at.now) c.args.out.now.items c.args.out.now.items refl

pub owner_row-requires-clause-asset : goal.owner_row-requires-clause-asset
owner_row-requires-clause-asset c =
    subst (λ e. IsAsset e.0) (sym c.asset-item.is) (All-from_recursion (λ e. IsAsset e.0) c.args.assets.now c.requires.assets c.loop-asset.asset-index c.asset-item.result c.loop-asset-test.true)

pub owner_row-requires-clause-owner : goal.owner_row-requires-clause-owner
owner_row-requires-clause-owner c =
    subst (λ e. IsHolder e.1) (sym c.asset-item.is) (All-from_recursion (λ e. IsHolder e.1) c.args.assets.now c.requires.owners c.loop-asset.asset-index c.asset-item.result c.loop-asset-test.true)

pub loop-asset-preserved : goal.loop-asset-preserved
loop-asset-preserved c =
    listed_next (IsOwnerRow c.args.at.now) c.args.assets.now c.loop-asset.asset-index c.asset-item.result c.args.out.now.items c.loop-asset.out.items c.push.new.self.items c.in_ok-row.row c.loop-asset-test.true c.asset-item.is c.loop-asset.invariant c.in_ok-row.ensures c.in_ok-push.ensures.items

pub returns : goal.returns
returns c =
    subst (λ es. Lists (IsOwnerRow c.args.at.now) es c.args.out.now.items c.loop-asset.out.items) (take_all c.loop-asset.asset-index c.args.assets.now c.loop-asset-test.false) c.loop-asset.invariant
