use Rattle.std.specs.Prelude.{IfOk}
use Rattle.std.proofs.Common.{◌≡◌, ℕ, refl, sym, ap, subst, ◌∙◌}
use Rattle.cl_costs.specs.Tables.{function_of}
use Rattle.cl_contracts.specs.declared.deployed.Deployed.{Deployed}
use Rattle.cl_contracts.specs.Seen.{deployed_seen}
use Rattle.cl_file.specs.declared.entry.Entry.{Entry}
use Rattle.cl_file.specs.declared.entry.Entry.TheVariants.{Block}
use Rattle.cl_nodes.specs.Seen.{Seen, seen}
use Rattle.cl_nodes.specs.Sound.{IsSound}
use Rattle.cl_engine.specs.Steps.{MakesSafely}
use Rattle.cl_engine.specs.Traces.{Sees}
use Rattle.cl_nodes.specs.declared.asked.Deployment.{Deployment}
use Rattle.cl_nodes.specs.Asked.{deployment_entry}
use Rattle.cl_nodes.proofs.Knowing.{one_node}
use Rattle.cl_nodes.proofs.Nodes.{sound_still}
use Rattle.cl_engine.proofs.Nodes.{all_safely, unchanged_so}
use Rattle.cl_engine.proofs.Tracing.{sees_up}
use Rattle.cl_engine.proofs.node.Node.deploy.Goals as goal

no_block : (d : Deployment) (height : ℕ) → deployment_entry d ≡ Block height → ⊥
no_block d height e = cc

pub invariant_of-self-2 : goal.invariant_of-self-2
invariant_of-self-2 g c =
    let n = c.self.inside in
    let d : Deployed = c.reprice.new.self.deployed in
    let f : Deployed = c.deploy.new.contracts.deployed in
    let sound : IsSound d.contracts (seen n.world.stack.top (deployed_seen d) n.height) = subst (λ (e : Deployed). IsSound e.contracts (seen n.world.stack.top (deployed_seen e) n.height)) (sym c.in_ok-reprice.ensures.same) c.self.invariant.sound in
    let t = c.deploy.new.world.stack.top in
    record {
      base = c.deploy.ensures.base;
      whole = c.deploy.ensures.whole;
      sound = sound_still c.args.costs.now d.contracts f.contracts (seen n.world.stack.top (deployed_seen d) n.height) (seen t (deployed_seen f) n.height) (deployment_entry c.args.deployment.now) (function_of c.at-table.result.now) (ap function_of c.at-table.ensures) sound c.requires
          (λ r. r) c.nodes_stay_sound.ensures.stay c.deploy.result c.deploy.ensures.steps (unchanged_so c.deploy.result n.world c.deploy.new.world c.reprice.new.self c.deploy.new.contracts n.height c.deploy.ensures.refused);
    }

pub returns-clause-made : goal.returns-clause-made
returns-clause-made g c =
    let n = c.self.inside in
    let d : Deployed = c.reprice.new.self.deployed in
    let f : Deployed = c.deploy.new.contracts.deployed in
    let sound : IsSound d.contracts (seen n.world.stack.top (deployed_seen d) n.height) = subst (λ (e : Deployed). IsSound e.contracts (seen n.world.stack.top (deployed_seen e) n.height)) (sym c.in_ok-reprice.ensures.same) c.self.invariant.sound in
    let t = c.deploy.new.world.stack.top in
    let entry : Entry = deployment_entry c.args.deployment.now in
    subst (λ (m : Seen). IfOk c.deploy.result (λ r. MakesSafely c.args.costs.now m entry r (seen t (deployed_seen f) n.height)))
    (ap (λ (e : Deployed). seen n.world.stack.top (deployed_seen e) n.height) c.in_ok-reprice.ensures.same ∙ c.self.view_is)
    (all_safely c.args.costs.now d.contracts f.contracts (seen n.world.stack.top (deployed_seen d) n.height) (seen t (deployed_seen f) n.height) entry (function_of c.at-table.result.now) (ap function_of c.at-table.ensures) sound c.requires
    c.failed_entries_change_nothing.ensures c.costs_stay_within_bounds.ensures.calls c.costs_stay_within_bounds.ensures.deployments c.answers_have_their_types.ensures.calls refl c.deploy.result c.deploy.ensures.steps)

pub returns-clause-seen : goal.returns-clause-seen
returns-clause-seen g c =
    let n = c.self.inside in
    let d : Deployed = c.reprice.new.self.deployed in
    let sound : IsSound d.contracts (seen n.world.stack.top (deployed_seen d) n.height) = subst (λ (e : Deployed). IsSound e.contracts (seen n.world.stack.top (deployed_seen e) n.height)) (sym c.in_ok-reprice.ensures.same) c.self.invariant.sound in
    let entry : Entry = deployment_entry c.args.deployment.now in
    subst (λ (m : Seen). Sees c.args.costs.now m entry c.deploy.result (g.W.Watch.seen c.args.watch.now) (g.W.Watch.seen c.deploy.new.watch))
    (ap (λ (e : Deployed). seen n.world.stack.top (deployed_seen e) n.height) c.in_ok-reprice.ensures.same ∙ c.self.view_is)
    (sees_up c.args.costs.now d.contracts (seen n.world.stack.top (deployed_seen d) n.height) entry sound (function_of c.at-table.result.now) (ap function_of c.at-table.ensures)
    (one_node c.forms_have_one_answer.ensures.one_end) (λ height e. no_block c.args.deployment.now height e) c.deploy.result (g.W.Watch.seen c.args.watch.now) (g.W.Watch.seen c.deploy.new.watch) c.deploy.ensures.seen)
