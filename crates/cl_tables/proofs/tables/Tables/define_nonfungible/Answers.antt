use Rattle.std.proofs.Common.{sym, subst}
use Rattle.cl_maps.specs.Maps.{empty}
use Rattle.cl_tables.specs.Notes.{state_of}
use Rattle.cl_tables.specs.Spelled.{IsHolder, IsAsset, IsSpelled}
use Rattle.cl_tables.proofs.Spelled.{with_spelled_assets, none_in}
use Rattle.cl_tokens.specs.Owners.{Owned}
use Rattle.cl_tables.specs.Variables.{key_of}
use Rattle.cl_tables.specs.Numbered.{owners_of}
use Rattle.cl_tables.specs.Tables.{held_in, rooms_in}
use Rattle.cl_tables.proofs.Past.{refused}
use Rattle.cl_tables.proofs.Numbered.{parts_placed, whole_nowhere, none_nowhere}
use Rattle.cl_tables.proofs.Changes.{nonfungible_defined, nonfungible_defined_state, nonfungible_unchanged}
use Rattle.cl_tables.proofs.tables.Tables.define_nonfungible.Goals as goal

pub define-requires-clause-placed : goal.define-requires-clause-placed
define-requires-clause-placed c = parts_placed (λ (h : Owned). h.owners) c.args.self.now.nonfungibles.entries c.requires.sound.nonfungibles

pub define-requires-clause-new : goal.define-requires-clause-new
define-requires-clause-new c = whole_nowhere (λ (h : Owned). h.owners) (key_of c.args.at.now) c.args.self.now.nonfungibles.entries (none_nowhere (key_of c.args.at.now) (owners_of c.args.self.now.nonfungibles.entries) c.requires.new)

pub returns-in_err-define-clause-refused : goal.returns-in_err-define-clause-refused
returns-in_err-define-clause-refused c = refused c.from_residual.result (nonfungible_unchanged (held_in c.args.self.now) (rooms_in c.args.self.now) c.args.self.now.nonfungibles.entries c.define.new.tokens.entries c.in_err-define.ensures.refused)

pub returns-clause-state : goal.returns-clause-state
returns-clause-state c = nonfungible_defined_state (held_in c.args.self.now) c.args.self.now.nonfungibles.entries c.define.new.tokens.entries c.args.at.now c.with_hash_key-token.result c.requires.new c.in_ok-define.ensures.done c.with_hash_key-token.ensures.owners

pub returns-clause-noted : goal.returns-clause-noted
returns-clause-noted c =
    let state = nonfungible_defined_state (held_in c.args.self.now) c.args.self.now.nonfungibles.entries c.define.new.tokens.entries c.args.at.now c.with_hash_key-token.result c.requires.new c.in_ok-define.ensures.done c.with_hash_key-token.ensures.owners in
    let spelled = subst IsSpelled (sym state) (with_spelled_assets (state_of (held_in c.args.self.now)) (key_of c.args.at.now) empty c.requires.sound.spelled (none_in (λ key owner. IsAsset key × IsHolder owner))) in
    nonfungible_defined (held_in c.args.self.now) (rooms_in c.args.self.now) c.args.self.now.nonfungibles.entries c.define.new.tokens.entries c.args.at.now c.with_hash_key-token.result c.requires.sound spelled c.in_ok-define.ensures.valid c.in_ok-define.ensures.done
