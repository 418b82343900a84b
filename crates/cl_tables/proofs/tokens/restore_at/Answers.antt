use Rattle.std.proofs.Common.{◌≡◌, sym, subst}
use Rattle.cl_maps.specs.Maps.{with_value}
use Rattle.cl_tokens.specs.Table.{HasRoom}
use Rattle.cl_tokens.specs.Owners.{Owned}
use Rattle.cl_tables.specs.Numbered.{no_owners}
use Rattle.cl_tables.proofs.Numbered.{at_number, others_stay, value_got}
use Rattle.cl_tables.proofs.tokens.restore_at.Goals as goal

pub restore-requires : goal.restore-requires
restore-requires c = subst (λ (h : Owned). HasRoom h.room c.args.asset.now) (sym (value_got no_owners c.in-Some.owners.now c.args.tokens.now.entries c.args.number c.in-Some.ensures.value)) c.requires.ready

pub returns-clause-owners : goal.returns-clause-owners
returns-clause-owners c =
    at_number (λ old new. new.owners ≡ with_value c.args.asset.now c.args.owner old.owners) no_owners c.in-Some.owners.now c.restore.new.self c.args.tokens.now.entries c.args.number c.requires.within c.in-Some.ensures.value c.restore.ensures.owners

pub returns-clause-room : goal.returns-clause-room
returns-clause-room c =
    at_number (λ old new. new.room ≡ old.room) no_owners c.in-Some.owners.now c.restore.new.self c.args.tokens.now.entries c.args.number c.requires.within c.in-Some.ensures.value c.restore.ensures.room

pub returns-clause-others : goal.returns-clause-others
returns-clause-others c = others_stay no_owners c.restore.new.self c.args.tokens.now.entries c.args.number c.requires.within
