use Rattle.std.proofs.Common.{◌-◌, arith}
use Rattle.cl_tokens.specs.Owners.{Owned}
use Rattle.cl_tables.specs.declared.place.Place.{Place}
use Rattle.cl_tables.specs.Spelled.{AreOwned}
use Rattle.cl_tables.specs.RowParts.{OfNonFungible}
use Rattle.cl_tables.proofs.PlacedRows.{entry_at, entry_low, token_has, told_more, told_all}
use Rattle.cl_tables.proofs.WholeRows.{owner_place}
use Rattle.cl_tables.proofs.listing.add_nonfungibles.Goals as goal

pub add_nonfungible-requires : goal.add_nonfungible-requires
add_nonfungible-requires c =
    let es = c.args.tokens.now.entries in
    let e : Place × Owned = (c.in-Some.at.now, c.in-Some.owners.now) in
    token_has (λ (l : Owned). l.owners) OfNonFungible owner_place AreOwned es (c.loop-i.i - 1) e c.requires.placed c.len-i.ensures.unique (entry_low es (c.loop-i.i - 1) e c.in-Some.ensures.entry) (entry_at es (c.loop-i.i - 1) e c.in-Some.ensures.entry) c.requires.owned

pub loop-i-preserved : goal.loop-i-preserved
loop-i-preserved c =
    let es = c.args.tokens.now.entries in
    let e : Place × Owned = (c.in-Some.at.now, c.in-Some.owners.now) in
    record {
      within = omega (arith, c.loop-i.invariant.within);
      told = told_more (λ (l : Owned). l.owners) OfNonFungible owner_place es c.loop-i.i e c.args.out.now.items c.loop-i.out.items c.add_nonfungible.new.out.items c.requires.placed c.len-i.ensures.unique c.loop-i-test.true c.loop-i.invariant.within
          (entry_at es (c.loop-i.i - 1) e c.in-Some.ensures.entry) c.loop-i.invariant.told c.in_ok-add_nonfungible.ensures;
    }

pub returns : goal.returns
returns c =
    told_all (λ (l : Owned). l.owners) OfNonFungible owner_place c.args.tokens.now.entries c.loop-i.i c.args.out.now.items c.loop-i.out.items c.requires.placed c.len-i.ensures.unique (omega arith) c.loop-i.invariant.told
