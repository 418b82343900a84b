use Rattle.std.specs.Prelude.{IfOk}
use Rattle.std.proofs.Common.{◌≡◌, ap, subst, sym, ◌∙◌}
use Rattle.cl_costs.specs.Tables.{function_of}
use Rattle.cl_contracts.specs.declared.deployed.Deployed.{Deployed}
use Rattle.cl_contracts.specs.Seen.{deployed_seen}
use Rattle.cl_file.specs.declared.entry.Entry.{Entry}
use Rattle.cl_nodes.specs.Seen.{Seen, seen}
use Rattle.cl_nodes.specs.Sound.{IsSound}
use Rattle.cl_engine.specs.Steps.{Gives}
use Rattle.cl_nodes.specs.Asked.{asked_entry}
use Rattle.cl_engine.proofs.Nodes.{tried_gives}
use Rattle.cl_engine.proofs.node.Node.peek.Goals as goal

pub returns-clause-gives : goal.returns-clause-gives
returns-clause-gives c =
    let n = c.self.inside in
    let d : Deployed = c.with_bounds-contracts.result.deployed.now in
    let same : d ≡ n.contracts.deployed = c.with_bounds-contracts.ensures.deployed ∙ c.in_ok-reprice.ensures.same in
    let sound : IsSound d.contracts (seen n.world.stack.top (deployed_seen d) n.height) = subst (λ (e : Deployed). IsSound e.contracts (seen n.world.stack.top (deployed_seen e) n.height)) (sym same) c.self.invariant.sound in
    let entry = sym (ap asked_entry c.in-Call.is) ∙ c.asked_by.ensures in
    subst (λ (m : Seen × Entry). IfOk c.try_call.result (λ r. Gives c.args.costs.now m.0 m.1 r))
    (λ i. ((ap (λ (e : Deployed). seen n.world.stack.top (deployed_seen e) n.height) same ∙ c.self.view_is) i, entry i))
    (tried_gives c.args.costs.now c.in-Call.invocation (function_of c.at-table.result.now) d.contracts (seen n.world.stack.top (deployed_seen d) n.height) (ap function_of c.at-table.ensures) sound c.try_call.result c.try_call.ensures.gives)
