use Rattle.std.specs.Prelude.{flat_map}
use Rattle.std.proofs.Common.{◌≡◌, [], sym, ap, subst, ◌∙◌}
use Rattle.cl_costs.specs.Schedules.{epoch_at, table_at}
use Rattle.cl_costs.specs.Tables.{function_of}
use Rattle.cl_contracts.specs.declared.deployed.Deployed.{Deployed}
use Rattle.cl_contracts.specs.Seen.{deployed_seen}
use Rattle.cl_contracts.specs.Standings.{AreStanding}
use Rattle.cl_tx.specs.Rebounds.{rebounds_of}
use Rattle.cl_nodes.proofs.Facts.{ok_also}
use Rattle.cl_nodes.proofs.Blocks.{other_epoch, same_epoch}
use Rattle.cl_nodes.proofs.contracts.Contracts.rebounds_at.Goals as goal

pub returns-then-epoch-clause-lines : goal.returns-then-epoch-clause-lines
returns-then-epoch-clause-lines c = λ node contracts standing height.
    c.new.ensures.items
    ∙ sym (same_epoch c.args.costs.now node c.args.to (ap (epoch_at c.args.costs.now) height ∙ sym c.epoch.ensures ∙ c.if-epoch.true ∙ c.epoch-2.ensures))

pub returns-clause-lines : goal.returns-clause-lines
returns-clause-lines c =
    let new = c.reprice.new.self in
    let whole = c.in_ok-reprice.ensures.whole in
    let table : new.table ≡ table_at c.args.costs.now c.args.to = c.in_ok-reprice.ensures.table ∙ c.at.ensures in
    ok_also c.rebounds.result _ _
    (λ lines h node contracts standing height.
    let stand = subst (λ (d : Deployed). AreStanding [] d.contracts node.known) (sym c.in_ok-reprice.ensures.same) standing in
    let seen : deployed_seen new.deployed ≡ node.contracts = ap deployed_seen c.in_ok-reprice.ensures.same ∙ sym contracts in
    h (function_of new.table) node.known stand whole.bounds_are
    ∙ (λ i. flat_map (rebounds_of (function_of (table i)) node.known) (seen i))
    ∙ sym (other_epoch c.args.costs.now node c.args.to (λ e. c.if-epoch.false (c.epoch.ensures ∙ ap (epoch_at c.args.costs.now) (sym height) ∙ e ∙ sym c.epoch-2.ensures))))
    c.rebounds.ensures
