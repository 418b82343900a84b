use Rattle.std.proofs.Common.{◌≤◌, length}
use Rattle.cl_tokens.specs.Owners.{Owned}
use Rattle.cl_tables.specs.RowParts.{OfNonFungible}
use Rattle.cl_tables.proofs.PlacedRows.{Told}
use Rattle.cl_tables.proofs.WholeRows.{owner_place}
use Rattle.cl_tables.proofs.listing.add_nonfungibles.Given as goal

abbrev pub invariant-loop-i : goal.invariant-loop-i
invariant-loop-i l = record {
  within : l.i ≤ length l.tokens.entries;
  told : Told (λ (l : Owned). l.owners) OfNonFungible owner_place l.tokens.entries l.i l.initial.out.items l.out.items;
}

abbrev pub decreases-loop-i : goal.decreases-loop-i
decreases-loop-i l = l.i
