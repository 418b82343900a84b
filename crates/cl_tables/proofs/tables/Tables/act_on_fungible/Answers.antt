use Rattle.cl_tables.specs.declared.deed.Deed.TheVariants.{OnFungible}
use Rattle.cl_tables.specs.Notes.{state_of}
use Rattle.cl_tables.proofs.Spelled.{spelled_done}
use Rattle.cl_tokens.specs.Ledger.{Held as LedgerHeld}
use Rattle.cl_tables.specs.declared.note.Note.{Note}
use Rattle.cl_tables.specs.Variables.{key_of}
use Rattle.cl_tables.specs.Tables.{held_in, rooms_in}
use Rattle.cl_tables.proofs.Past.{refused}
use Rattle.cl_tables.proofs.Numbered.{parts_placed, defined_somewhere, number_below}
use Rattle.cl_tables.proofs.Changes.{refused_gives, fungible_refused, fungible_same, fungible_gives, fungible_change}
use Rattle.cl_tables.proofs.tables.Tables.act_on_fungible.Goals as goal

pub number_of-requires : goal.number_of-requires
number_of-requires c = parts_placed (λ (h : LedgerHeld). h.ledger) c.args.self.now.fungibles.entries c.requires.sound.fungibles

pub unreachable-requires : goal.unreachable-requires
unreachable-requires c = defined_somewhere (λ (h : LedgerHeld). h.ledger) (key_of c.args.at.now) c.args.self.now.fungibles.entries c.in_default.ensures c.requires.defined

pub perform_at-requires : goal.perform_at-requires
perform_at-requires c = number_below (key_of c.args.at.now) c.args.self.now.fungibles.entries c.in-Some.number c.in-Some.ensures

pub returns-in_err-perform_at-clause-gives : goal.returns-in_err-perform_at-clause-gives
returns-in_err-perform_at-clause-gives c =
    refused_gives _ c.in_err-perform_at.field-0.0 c.from_residual.result _
    (fungible_refused Note (Unit {0}) (held_in c.args.self.now) c.args.self.now.fungibles.entries (key_of c.args.at.now) c.in-Some.number c.args.act c.in_err-perform_at.field-0.0 _ c.in-Some.ensures c.in_err-perform_at.ensures.refused) c.from_residual.ensures.1

pub returns-in_err-perform_at-clause-refused : goal.returns-in_err-perform_at-clause-refused
returns-in_err-perform_at-clause-refused c =
    refused c.from_residual.result (fungible_same (held_in c.args.self.now) (rooms_in c.args.self.now) c.args.self.now.fungibles.entries c.perform_at.new.tokens.entries c.in-Some.number c.perform_at.ensures.others c.in_err-perform_at.ensures.unchanged c.perform_at.ensures.keeps)

pub returns-clause-gives : goal.returns-clause-gives
returns-clause-gives c = fungible_gives (held_in c.args.self.now) c.args.self.now.fungibles.entries c.perform_at.new.tokens.entries (key_of c.args.at.now) c.in-Some.number c.args.act c.in-Some.ensures c.perform_at.ensures.others c.in_ok-perform_at.ensures.done

pub returns-clause-noted : goal.returns-clause-noted
returns-clause-noted c =
    let es = c.args.self.now.fungibles.entries in
    let new = c.perform_at.new.tokens.entries in
    let gives = fungible_gives (held_in c.args.self.now) es new (key_of c.args.at.now) c.in-Some.number c.args.act c.in-Some.ensures c.perform_at.ensures.others c.in_ok-perform_at.ensures.done in
    let spelled = spelled_done (OnFungible c.args.at.now c.args.act) (state_of (held_in c.args.self.now)) _ c.requires.deed c.requires.sound.spelled gives in
    fungible_change (held_in c.args.self.now) (rooms_in c.args.self.now) es new c.in-Some.number c.args.act c.requires.sound spelled (number_below (key_of c.args.at.now) es c.in-Some.number c.in-Some.ensures)
    c.perform_at.ensures.others c.in_ok-perform_at.ensures.back c.in_ok-perform_at.ensures.giver c.perform_at.ensures.keeps
