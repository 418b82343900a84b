use Rattle.std.proofs.Common.{◌≡◌}
use Rattle.std.specs.Prelude.{Ok, OnOk, OnErr, IfOk}
use Rattle.cl_maps.specs.Maps.{with_value}
use Rattle.cl_tokens.specs.Table.{HasRoom}
use Rattle.cl_tokens.specs.AssetDeeds.{done as asset_done}
use Rattle.cl_tables.specs.Notes.{IsRefusedBy, Keeps}
use Rattle.cl_tables.specs.Numbered.{no_owners}
use Rattle.cl_tables.proofs.Numbered.{at_number, others_stay}
use Rattle.cl_tables.proofs.tokens.transfer_at.Goals as goal

pub returns-clause-done : goal.returns-clause-done
returns-clause-done c =
    at_number (λ old new. OnOk c.transfer.result (asset_done c.args.asset.now c.args.act old.owners ≡ Ok new.owners)) no_owners c.in-Some.owners.now c.transfer.new.owners c.args.tokens.now.entries c.args.number c.requires c.in-Some.ensures.value c.transfer.ensures.done

pub returns-clause-refused : goal.returns-clause-refused
returns-clause-refused c =
    at_number (λ old new. IsRefusedBy (asset_done c.args.asset.now c.args.act old.owners) c.transfer.result) no_owners c.in-Some.owners.now c.transfer.new.owners c.args.tokens.now.entries c.args.number c.requires c.in-Some.ensures.value c.transfer.ensures.refused

pub returns-clause-unchanged : goal.returns-clause-unchanged
returns-clause-unchanged c =
    at_number (λ old new. OnErr c.transfer.result (new.owners ≡ old.owners)) no_owners c.in-Some.owners.now c.transfer.new.owners c.args.tokens.now.entries c.args.number c.requires c.in-Some.ensures.value c.transfer.ensures.unchanged

pub returns-clause-back : goal.returns-clause-back
returns-clause-back c =
    at_number (λ old new. IfOk c.transfer.result (λ owner. with_value c.args.asset.now owner new.owners ≡ old.owners)) no_owners c.in-Some.owners.now c.transfer.new.owners c.args.tokens.now.entries c.args.number c.requires c.in-Some.ensures.value c.transfer.ensures.back

pub returns-clause-ready : goal.returns-clause-ready
returns-clause-ready c =
    at_number (λ old new. OnOk c.transfer.result (HasRoom new.room c.args.asset.now)) no_owners c.in-Some.owners.now c.transfer.new.owners c.args.tokens.now.entries c.args.number c.requires c.in-Some.ensures.value c.transfer.ensures.ready

pub returns-clause-keeps : goal.returns-clause-keeps
returns-clause-keeps c =
    at_number (λ old new. Keeps old.room new.room) no_owners c.in-Some.owners.now c.transfer.new.owners c.args.tokens.now.entries c.args.number c.requires c.in-Some.ensures.value c.transfer.ensures.keeps

pub returns-clause-others : goal.returns-clause-others
returns-clause-others c = others_stay no_owners c.transfer.new.owners c.args.tokens.now.entries c.args.number c.requires
