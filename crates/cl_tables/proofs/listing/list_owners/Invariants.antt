use Rattle.std.proofs.Common.{take}
use Rattle.cl_tables.specs.RowParts.{IsOwnerRow, Lists}
use Rattle.cl_tables.proofs.listing.list_owners.Given as goal

abbrev pub invariant-loop-asset : goal.invariant-loop-asset
invariant-loop-asset l = Lists (IsOwnerRow l.at) (take l.asset-index l.assets) l.initial.out.items l.out.items
