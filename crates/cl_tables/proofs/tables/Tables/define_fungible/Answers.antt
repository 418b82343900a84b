use Rattle.std.proofs.Common.{sym, subst}
use Rattle.cl_tables.specs.Notes.{state_of}
use Rattle.cl_tables.specs.Spelled.{IsSpelled}
use Rattle.cl_tables.proofs.Spelled.{with_spelled_token, nobody_holds}
use Rattle.cl_tokens.specs.Ledger.{Held as LedgerHeld, no_tokens}
use Rattle.cl_tables.specs.Variables.{key_of}
use Rattle.cl_tables.specs.Numbered.{ledgers_of}
use Rattle.cl_tables.specs.Tables.{held_in, rooms_in}
use Rattle.cl_tables.proofs.Past.{refused}
use Rattle.cl_tables.proofs.Numbered.{parts_placed, whole_nowhere, none_nowhere}
use Rattle.cl_tables.proofs.Changes.{fungible_defined, fungible_defined_state, fungible_unchanged}
use Rattle.cl_tables.proofs.tables.Tables.define_fungible.Goals as goal

pub define-requires-clause-placed : goal.define-requires-clause-placed
define-requires-clause-placed c = parts_placed (λ (h : LedgerHeld). h.ledger) c.args.self.now.fungibles.entries c.requires.sound.fungibles

pub define-requires-clause-new : goal.define-requires-clause-new
define-requires-clause-new c = whole_nowhere (λ (h : LedgerHeld). h.ledger) (key_of c.args.at.now) c.args.self.now.fungibles.entries (none_nowhere (key_of c.args.at.now) (ledgers_of c.args.self.now.fungibles.entries) c.requires.new)

pub returns-in_err-define-clause-refused : goal.returns-in_err-define-clause-refused
returns-in_err-define-clause-refused c = refused c.from_residual.result (fungible_unchanged (held_in c.args.self.now) (rooms_in c.args.self.now) c.args.self.now.fungibles.entries c.define.new.tokens.entries c.in_err-define.ensures.refused)

pub returns-clause-state : goal.returns-clause-state
returns-clause-state c = fungible_defined_state (held_in c.args.self.now) c.args.self.now.fungibles.entries c.define.new.tokens.entries c.args.at.now c.with_hash_key-token.result (no_tokens c.args.cap) c.requires.new c.in_ok-define.ensures.done c.with_hash_key-token.ensures.ledger

pub returns-clause-noted : goal.returns-clause-noted
returns-clause-noted c =
    let state = fungible_defined_state (held_in c.args.self.now) c.args.self.now.fungibles.entries c.define.new.tokens.entries c.args.at.now c.with_hash_key-token.result (no_tokens c.args.cap) c.requires.new c.in_ok-define.ensures.done c.with_hash_key-token.ensures.ledger in
    let spelled = subst IsSpelled (sym state) (with_spelled_token (state_of (held_in c.args.self.now)) (key_of c.args.at.now) (no_tokens c.args.cap) c.requires.sound.spelled (nobody_holds c.args.cap)) in
    fungible_defined (held_in c.args.self.now) (rooms_in c.args.self.now) c.args.self.now.fungibles.entries c.define.new.tokens.entries c.args.at.now c.with_hash_key-token.result c.requires.sound spelled c.in_ok-define.ensures.valid c.in_ok-define.ensures.done
