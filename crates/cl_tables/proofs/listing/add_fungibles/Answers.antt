use Rattle.std.proofs.Common.{◌-◌, arith}
use Rattle.cl_tokens.specs.Ledger.{Held}
use Rattle.cl_tables.specs.declared.place.Place.{Place}
use Rattle.cl_tables.specs.Spelled.{AreHeld}
use Rattle.cl_tables.specs.RowParts.{OfFungible}
use Rattle.cl_tables.proofs.PlacedRows.{entry_at, entry_low, token_has, told_more, told_all}
use Rattle.cl_tables.proofs.WholeRows.{fungible_place}
use Rattle.cl_tables.proofs.listing.add_fungibles.Goals as goal

pub add_fungible-requires : goal.add_fungible-requires
add_fungible-requires c =
    let es = c.args.tokens.now.entries in
    let e : Place × Held = (c.in-Some.at.now, c.in-Some.ledger.now) in
    token_has (λ (l : Held). l.ledger) OfFungible fungible_place AreHeld es (c.loop-i.i - 1) e c.requires.placed c.len-i.ensures.unique (entry_low es (c.loop-i.i - 1) e c.in-Some.ensures.entry) (entry_at es (c.loop-i.i - 1) e c.in-Some.ensures.entry) c.requires.held

pub loop-i-preserved : goal.loop-i-preserved
loop-i-preserved c =
    let es = c.args.tokens.now.entries in
    let e : Place × Held = (c.in-Some.at.now, c.in-Some.ledger.now) in
    record {
      within = omega (arith, c.loop-i.invariant.within);
      told = told_more (λ (l : Held). l.ledger) OfFungible fungible_place es c.loop-i.i e c.args.out.now.items c.loop-i.out.items c.add_fungible.new.out.items c.requires.placed c.len-i.ensures.unique c.loop-i-test.true c.loop-i.invariant.within
          (entry_at es (c.loop-i.i - 1) e c.in-Some.ensures.entry) c.loop-i.invariant.told c.in_ok-add_fungible.ensures;
    }

pub returns : goal.returns
returns c =
    told_all (λ (l : Held). l.ledger) OfFungible fungible_place c.args.tokens.now.entries c.loop-i.i c.args.out.now.items c.loop-i.out.items c.requires.placed c.len-i.ensures.unique (omega arith) c.loop-i.invariant.told
