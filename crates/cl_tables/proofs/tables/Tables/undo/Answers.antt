use Rattle.std.proofs.Common.{◌∙◌, ap, sym, subst}
use Rattle.cl_tables.specs.declared.note.Note.TheVariants.{Fungible, Asset, FungibleDefined, NonFungibleDefined}
use Rattle.cl_tables.specs.Notes.{undone, IsReady}
use Rattle.cl_tables.specs.Tables.{held_in, rooms_in}
use Rattle.cl_tables.proofs.Changes.{undone_rooms, giver_at, slot_at, ledger_undone_is, ledger_undone_rooms, owners_undone_is, owners_undone_rooms, ledgers_cut, ledgers_cut_rooms, owners_cut, owners_cut_rooms}
use Rattle.cl_tables.proofs.tables.Tables.undo.Goals as goal

pub undo_at-requires-clause-ready : goal.undo_at-requires-clause-ready
undo_at-requires-clause-ready c =
    let ready : IsReady (rooms_in c.args.self.now) 0 0 (Fungible c.in-Fungible.number c.in-Fungible.act) = subst (IsReady (rooms_in c.args.self.now) 0 0) c.in-Fungible.is c.requires in
    giver_at c.args.self.now.fungibles.entries c.in-Fungible.number c.in-Fungible.act ready.1

pub restore_at-requires-clause-ready : goal.restore_at-requires-clause-ready
restore_at-requires-clause-ready c =
    let ready : IsReady (rooms_in c.args.self.now) 0 0 (Asset c.in-Asset.number c.in-Asset.asset c.in-Asset.owner) = subst (IsReady (rooms_in c.args.self.now) 0 0) c.in-Asset.is c.requires in
    slot_at c.args.self.now.nonfungibles.entries c.in-Asset.number c.in-Asset.asset ready.1

pub returns-in-Fungible-clause-held : goal.returns-in-Fungible-clause-held
returns-in-Fungible-clause-held c =
    let is = ledger_undone_is c.args.self.now.fungibles.entries c.undo_at.new.tokens.entries c.in-Fungible.number c.in-Fungible.act c.undo_at.ensures.others c.undo_at.ensures.ledger in
    (λ i. record (held_in c.args.self.now) { fungibles = is i }) ∙ ap (λ n. undone n (held_in c.args.self.now)) (sym c.in-Fungible.is)

pub returns-in-Fungible-clause-rooms : goal.returns-in-Fungible-clause-rooms
returns-in-Fungible-clause-rooms c =
    undone_rooms c.args.note (Fungible c.in-Fungible.number c.in-Fungible.act) _ _ c.in-Fungible.is (ledger_undone_rooms (rooms_in c.args.self.now) c.args.self.now.fungibles.entries c.undo_at.new.tokens.entries c.in-Fungible.number c.undo_at.ensures.others c.undo_at.ensures.room)

pub returns-in-Asset-clause-held : goal.returns-in-Asset-clause-held
returns-in-Asset-clause-held c =
    let is = owners_undone_is c.args.self.now.nonfungibles.entries c.restore_at.new.tokens.entries c.in-Asset.number c.in-Asset.asset c.in-Asset.owner c.restore_at.ensures.others c.restore_at.ensures.owners in
    (λ i. record (held_in c.args.self.now) { nonfungibles = is i }) ∙ ap (λ n. undone n (held_in c.args.self.now)) (sym c.in-Asset.is)

pub returns-in-Asset-clause-rooms : goal.returns-in-Asset-clause-rooms
returns-in-Asset-clause-rooms c =
    undone_rooms c.args.note (Asset c.in-Asset.number c.in-Asset.asset c.in-Asset.owner) _ _ c.in-Asset.is (owners_undone_rooms (rooms_in c.args.self.now) c.args.self.now.nonfungibles.entries c.restore_at.new.tokens.entries c.in-Asset.number c.restore_at.ensures.others c.restore_at.ensures.room)

pub returns-in-FungibleDefined-clause-held : goal.returns-in-FungibleDefined-clause-held
returns-in-FungibleDefined-clause-held c =
    let is = ledgers_cut c.args.self.now.fungibles.entries c.undefine.new.tokens.entries c.undefine.ensures.0 c.undefine.ensures.1 in
    (λ i. record (held_in c.args.self.now) { fungibles = is i }) ∙ ap (λ n. undone n (held_in c.args.self.now)) (sym c.in-FungibleDefined.is)

pub returns-in-FungibleDefined-clause-rooms : goal.returns-in-FungibleDefined-clause-rooms
returns-in-FungibleDefined-clause-rooms c =
    undone_rooms c.args.note FungibleDefined _ _ c.in-FungibleDefined.is (ledgers_cut_rooms (rooms_in c.args.self.now) c.args.self.now.fungibles.entries c.undefine.new.tokens.entries c.undefine.ensures.0 c.undefine.ensures.1)

pub returns-in-NonFungibleDefined-clause-held : goal.returns-in-NonFungibleDefined-clause-held
returns-in-NonFungibleDefined-clause-held c =
    let is = owners_cut c.args.self.now.nonfungibles.entries c.undefine-in-NonFungibleDefined.new.tokens.entries c.undefine-in-NonFungibleDefined.ensures.0 c.undefine-in-NonFungibleDefined.ensures.1 in
    (λ i. record (held_in c.args.self.now) { nonfungibles = is i }) ∙ ap (λ n. undone n (held_in c.args.self.now)) (sym c.in-NonFungibleDefined.is)

pub returns-in-NonFungibleDefined-clause-rooms : goal.returns-in-NonFungibleDefined-clause-rooms
returns-in-NonFungibleDefined-clause-rooms c =
    undone_rooms c.args.note NonFungibleDefined _ _ c.in-NonFungibleDefined.is (owners_cut_rooms (rooms_in c.args.self.now) c.args.self.now.nonfungibles.entries c.undefine-in-NonFungibleDefined.new.tokens.entries c.undefine-in-NonFungibleDefined.ensures.0 c.undefine-in-NonFungibleDefined.ensures.1)
