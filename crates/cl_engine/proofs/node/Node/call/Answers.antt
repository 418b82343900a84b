use Rattle.std.specs.Prelude.{IfOk}
use Rattle.std.proofs.Common.{◌≡◌, ℕ, refl, sym, ap, subst, ◌∙◌}
use Rattle.cl_costs.specs.Tables.{function_of}
use Rattle.cl_contracts.specs.declared.deployed.Deployed.{Deployed}
use Rattle.cl_contracts.specs.Seen.{deployed_seen}
use Rattle.cl_file.specs.declared.entry.Entry.{Entry}
use Rattle.cl_file.specs.declared.entry.Entry.TheVariants.{Block}
use Rattle.cl_nodes.specs.Seen.{Seen, seen}
use Rattle.cl_nodes.specs.Sound.{IsSound}
use Rattle.cl_engine.specs.Steps.{MakesSafely}
use Rattle.cl_engine.specs.Traces.{Sees}
use Rattle.cl_nodes.specs.declared.asked.Invocation.{Invocation}
use Rattle.cl_nodes.specs.Asked.{call_entry}
use Rattle.cl_nodes.proofs.Knowing.{one_node}
use Rattle.cl_nodes.proofs.Nodes.{sound_still}
use Rattle.cl_engine.proofs.Nodes.{all_safely, still_so}
use Rattle.cl_engine.proofs.Tracing.{sees_up}
use Rattle.cl_engine.proofs.node.Node.call.Goals as goal

no_block : (i : Invocation) (height : ℕ) → call_entry i ≡ Block height → ⊥
no_block i height e = cc

pub invariant_of-self-2 : goal.invariant_of-self-2
invariant_of-self-2 g c =
    let n = c.self.inside in
    let d : Deployed = c.with_bounds-contracts.result.deployed.now in
    let same : d ≡ n.contracts.deployed = c.with_bounds-contracts.ensures.deployed ∙ c.in_ok-reprice.ensures.same in
    let sound : IsSound d.contracts (seen n.world.stack.top (deployed_seen d) n.height) = subst (λ (e : Deployed). IsSound e.contracts (seen n.world.stack.top (deployed_seen e) n.height)) (sym same) c.self.invariant.sound in
    let t = c.call.new.world.stack.top in
    record {
      base = c.call.ensures.base;
      whole = c.in_ok-reprice.ensures.whole;
      sound = subst (λ (e : Deployed). IsSound e.contracts (seen t (deployed_seen e) n.height)) c.with_bounds-contracts.ensures.deployed
          (sound_still c.args.costs.now d.contracts d.contracts (seen n.world.stack.top (deployed_seen d) n.height) (seen t (deployed_seen d) n.height) (call_entry c.args.invocation.now) (function_of c.at-table.result.now) (ap function_of c.at-table.ensures) sound c.requires
          (λ r. r) c.nodes_stay_sound.ensures.stay c.call.result c.call.ensures.steps (still_so c.call.result n.world.stack.top t d n.height c.call.ensures.refused));
    }

pub returns-clause-made : goal.returns-clause-made
returns-clause-made g c =
    let n = c.self.inside in
    let d : Deployed = c.with_bounds-contracts.result.deployed.now in
    let same : d ≡ n.contracts.deployed = c.with_bounds-contracts.ensures.deployed ∙ c.in_ok-reprice.ensures.same in
    let sound : IsSound d.contracts (seen n.world.stack.top (deployed_seen d) n.height) = subst (λ (e : Deployed). IsSound e.contracts (seen n.world.stack.top (deployed_seen e) n.height)) (sym same) c.self.invariant.sound in
    let t = c.call.new.world.stack.top in
    let entry : Entry = call_entry c.args.invocation.now in
    subst (λ (m : Seen × Deployed). IfOk c.call.result (λ r. MakesSafely c.args.costs.now m.0 entry r (seen t (deployed_seen m.1) n.height)))
    (λ i. ((ap (λ (e : Deployed). seen n.world.stack.top (deployed_seen e) n.height) same ∙ c.self.view_is) i, c.with_bounds-contracts.ensures.deployed i))
    (all_safely c.args.costs.now d.contracts d.contracts (seen n.world.stack.top (deployed_seen d) n.height) (seen t (deployed_seen d) n.height) entry (function_of c.at-table.result.now) (ap function_of c.at-table.ensures) sound c.requires
    c.failed_entries_change_nothing.ensures c.costs_stay_within_bounds.ensures.calls c.costs_stay_within_bounds.ensures.deployments c.answers_have_their_types.ensures.calls refl c.call.result c.call.ensures.steps)

pub returns-clause-seen : goal.returns-clause-seen
returns-clause-seen g c =
    let n = c.self.inside in
    let d : Deployed = c.with_bounds-contracts.result.deployed.now in
    let same : d ≡ n.contracts.deployed = c.with_bounds-contracts.ensures.deployed ∙ c.in_ok-reprice.ensures.same in
    let sound : IsSound d.contracts (seen n.world.stack.top (deployed_seen d) n.height) = subst (λ (e : Deployed). IsSound e.contracts (seen n.world.stack.top (deployed_seen e) n.height)) (sym same) c.self.invariant.sound in
    let entry : Entry = call_entry c.args.invocation.now in
    subst (λ (m : Seen). Sees c.args.costs.now m entry c.call.result (g.W.Watch.seen c.args.watch.now) (g.W.Watch.seen c.call.new.watch))
    (ap (λ (e : Deployed). seen n.world.stack.top (deployed_seen e) n.height) same ∙ c.self.view_is)
    (sees_up c.args.costs.now d.contracts (seen n.world.stack.top (deployed_seen d) n.height) entry sound (function_of c.at-table.result.now) (ap function_of c.at-table.ensures)
    (one_node c.forms_have_one_answer.ensures.one_end) (λ height e. no_block c.args.invocation.now height e) c.call.result (g.W.Watch.seen c.args.watch.now) (g.W.Watch.seen c.call.new.watch) c.call.ensures.seen)
