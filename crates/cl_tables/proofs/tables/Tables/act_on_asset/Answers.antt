use Rattle.cl_tables.specs.declared.deed.Deed.TheVariants.{OnAsset}
use Rattle.cl_tables.specs.Notes.{state_of}
use Rattle.cl_tables.proofs.Spelled.{spelled_done}
use Rattle.std.specs.Prelude.{ℕ, List, Option}
use Rattle.cl_tokens.specs.Owners.{Owned}
use Rattle.cl_tables.specs.declared.note.Note.{Note}
use Rattle.cl_tables.specs.Variables.{key_of}
use Rattle.cl_tables.specs.Tables.{held_in, rooms_in}
use Rattle.cl_tables.proofs.Past.{refused}
use Rattle.cl_tables.proofs.Numbered.{parts_placed, defined_somewhere, number_below}
use Rattle.cl_tables.proofs.Changes.{refused_gives, asset_refused, asset_same, asset_gives, asset_change}
use Rattle.cl_tables.proofs.tables.Tables.act_on_asset.Goals as goal

pub number_of-requires : goal.number_of-requires
number_of-requires c = parts_placed (λ (h : Owned). h.owners) c.args.self.now.nonfungibles.entries c.requires.sound.nonfungibles

pub unreachable-requires : goal.unreachable-requires
unreachable-requires c = defined_somewhere (λ (h : Owned). h.owners) (key_of c.args.at.now) c.args.self.now.nonfungibles.entries c.in_default.ensures c.requires.defined

pub transfer_at-requires : goal.transfer_at-requires
transfer_at-requires c = number_below (key_of c.args.at.now) c.args.self.now.nonfungibles.entries c.in-Some.number c.in-Some.ensures

pub returns-in_err-owner-clause-gives : goal.returns-in_err-owner-clause-gives
returns-in_err-owner-clause-gives c =
    refused_gives _ c.in_err-owner.field-0.0 c.from_residual.result _
    (asset_refused Note (Option (List ℕ)) (held_in c.args.self.now) c.args.self.now.nonfungibles.entries (key_of c.args.at.now) c.in-Some.number c.args.id c.args.act c.in_err-owner.field-0.0 _ c.in-Some.ensures c.in_err-owner.ensures.refused) c.from_residual.ensures.1

pub returns-in_err-owner-clause-refused : goal.returns-in_err-owner-clause-refused
returns-in_err-owner-clause-refused c =
    refused c.from_residual.result (asset_same (held_in c.args.self.now) (rooms_in c.args.self.now) c.args.self.now.nonfungibles.entries c.transfer_at.new.tokens.entries c.in-Some.number c.transfer_at.ensures.others c.in_err-owner.ensures.unchanged c.transfer_at.ensures.keeps)

pub returns-clause-gives : goal.returns-clause-gives
returns-clause-gives c = asset_gives (held_in c.args.self.now) c.args.self.now.nonfungibles.entries c.transfer_at.new.tokens.entries (key_of c.args.at.now) c.in-Some.number c.args.id c.args.act c.in-Some.ensures c.transfer_at.ensures.others c.in_ok-owner.ensures.done

pub returns-clause-noted : goal.returns-clause-noted
returns-clause-noted c =
    let es = c.args.self.now.nonfungibles.entries in
    let new = c.transfer_at.new.tokens.entries in
    let gives = asset_gives (held_in c.args.self.now) es new (key_of c.args.at.now) c.in-Some.number c.args.id c.args.act c.in-Some.ensures c.transfer_at.ensures.others c.in_ok-owner.ensures.done in
    let spelled = spelled_done (OnAsset c.args.at.now c.args.id c.args.act) (state_of (held_in c.args.self.now)) _ (c.requires.asset, c.requires.deed) c.requires.sound.spelled gives in
    asset_change (held_in c.args.self.now) (rooms_in c.args.self.now) es new c.in-Some.number c.args.id c.args.act c.in_ok-owner.owner c.requires.sound spelled (number_below (key_of c.args.at.now) es c.in-Some.number c.in-Some.ensures)
    c.transfer_at.ensures.others c.in_ok-owner.ensures.done c.in_ok-owner.ensures.back c.in_ok-owner.ensures.ready c.transfer_at.ensures.keeps
