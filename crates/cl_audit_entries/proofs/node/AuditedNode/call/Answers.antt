use Rattle.std.specs.Prelude.{IfOk}
use Rattle.std.proofs.Common.{◌≡◌, ℕ, List, sym, ap, subst, ◌∙◌}
use Rattle.cl_shapes.specs.declared.function.CostFn.{CostFn}
use Rattle.cl_costs.specs.Tables.{function_of}
use Rattle.cl_bound.specs.declared.known.KnownBounds.{KnownBounds}
use Rattle.cl_contracts.specs.declared.deployed.Deployed.{Deployed}
use Rattle.cl_file.specs.declared.entry.Entry.{Entry}
use Rattle.cl_meaning.specs.Scope.{Frame}
use Rattle.cl_nodes.specs.Asked.{call_entry}
use Rattle.cl_nodes.specs.Bounded.{AreBounded}
use Rattle.cl_nodes.specs.Seen.{Seen, seen}
use Rattle.cl_nodes.specs.Sound.{IsSound}
use Rattle.cl_nodes.specs.Steps.{Makes, MakesSound}
use Rattle.cl_nodes.proofs.Nodes.{all_made, sound_still}
use Rattle.cl_audit_steps.specs.declared.scope.Contract.{Contract as ContractOfCode}
use Rattle.cl_audit_steps.specs.Seen.{contracts_seen, frame_seen}
use Rattle.cl_audit_steps.specs.Tables.{TableParts}
use Rattle.cl_audit_walk.specs.declared.cursor.Claim.{Claim}
use Rattle.cl_audit_entries.specs.Agreeing.{AgreesUnder, AgreesWith}
use Rattle.cl_audit_entries.specs.Calling.{call_frame}
use Rattle.cl_audit_entries.specs.Seen.{AreThose, IsReady}
use Rattle.cl_audit_entries.proofs.Stepping.{all_agree, still_so}
use Rattle.cl_audit_entries.proofs.node.AuditedNode.call.Goals as goal

pub call-requires-clause-around : goal.call-requires-clause-around
call-requires-clause-around c =
    let i = c.args.invocation.now in
    let framed : frame_seen c.scope_over-scope.result.frame.now ≡ call_frame i c.self.inside.height = ap frame_seen c.scope_over-scope.ensures.frame ∙ c.frame_of-frame.ensures in
    record { opening = c.scope_over-scope.ensures.opening; framed = framed ∙ ap (call_frame i) (sym (ap (λ (F : Frame). F.height) framed)) }

pub call-requires-clause-callable : goal.call-requires-clause-callable
call-requires-clause-callable c =
    subst (λ (p : List CostFn × (Deployed × KnownBounds)). AreBounded (function_of p.0) p.1.0 p.1.1)
    (λ i. ((c.in_ok-reprice.ensures.table ∙ sym c.scope_over-scope.ensures.costs) i, (sym c.with_bounds-contracts.ensures.deployed i, sym c.with_bounds-contracts.ensures.bounds i))) c.in_ok-reprice.ensures.whole

pub call-requires-clause-ready : goal.call-requires-clause-ready
call-requires-clause-ready c =
    let n = c.self.inside in
    let d : Deployed = c.with_bounds-contracts.result.deployed.now in
    let same : d ≡ n.contracts.deployed = c.with_bounds-contracts.ensures.deployed ∙ c.in_ok-reprice.ensures.same in
    let texts : c.scope_over-scope.result.contracts.now.contracts ≡ n.texts.contracts = ap (λ (t : TableParts). t.contracts) c.scope_over-scope.ensures.contracts in
    let height : c.scope_over-scope.result.frame.now.height ≡ n.height = ap (λ (F : Frame). F.height) (ap frame_seen c.scope_over-scope.ensures.frame ∙ c.frame_of-frame.ensures) in
    subst (λ (p : List ContractOfCode × ℕ). IsReady (record n.run { cursor = c.new-self-inside.result }) p.0 d p.1 (call_entry c.args.invocation.now)) (λ i. (sym texts i, sym height i))
    (record {
      those = subst (λ (e : Deployed). AreThose n.texts.contracts e) (sym same) c.self.invariant.those;
      sound = subst (λ (e : Deployed). IsSound e.contracts (seen n.run.world.stack.top (contracts_seen n.texts.contracts) n.height)) (sym same) c.self.invariant.sound;
      parts = c.requires;
    })

pub invariant_of-self-2 : goal.invariant_of-self-2
invariant_of-self-2 c =
    let n = c.self.inside in
    let d : Deployed = c.with_bounds-contracts.result.deployed.now in
    let same : d ≡ n.contracts.deployed = c.with_bounds-contracts.ensures.deployed ∙ c.in_ok-reprice.ensures.same in
    let texts : c.scope_over-scope.result.contracts.now.contracts ≡ n.texts.contracts = ap (λ (t : TableParts). t.contracts) c.scope_over-scope.ensures.contracts in
    let height : c.scope_over-scope.result.frame.now.height ≡ n.height = ap (λ (F : Frame). F.height) (ap frame_seen c.scope_over-scope.ensures.frame ∙ c.frame_of-frame.ensures) in
    let before : Seen = seen n.run.world.stack.top (contracts_seen n.texts.contracts) n.height in
    let after : Seen = seen c.call.new.run.world.stack.top (contracts_seen n.texts.contracts) n.height in
    let entry : Entry = call_entry c.args.invocation.now in
    let sound : IsSound d.contracts before = subst (λ (e : Deployed). IsSound e.contracts before) (sym same) c.self.invariant.sound in
    let steps : IfOk c.call.result (λ a. MakesSound (function_of c.at-table.result.now) d.contracts before entry a.result d.contracts after) =
    subst (λ (p : List CostFn × (List ContractOfCode × ℕ)). IfOk c.call.result (λ a. MakesSound (function_of p.0) d.contracts (seen n.run.world.stack.top (contracts_seen p.1.0) p.1.1) entry a.result d.contracts (seen c.call.new.run.world.stack.top (contracts_seen p.1.0) p.1.1)))
    (λ i. (c.scope_over-scope.ensures.costs i, (texts i, height i))) c.call.ensures.steps in
    record {
      base = c.call.ensures.base;
      whole = c.in_ok-reprice.ensures.whole;
      those = subst (λ (e : Deployed). AreThose n.texts.contracts e) (sym c.in_ok-reprice.ensures.same) c.self.invariant.those;
      sound = subst (λ (e : Deployed). IsSound e.contracts after) c.with_bounds-contracts.ensures.deployed
          (sound_still c.args.costs.now d.contracts d.contracts before after entry (function_of c.at-table.result.now) (ap function_of c.at-table.ensures) sound c.requires
          (λ a. a.result) c.nodes_stay_sound.ensures.stay c.call.result steps (still_so c.call.result n.run c.call.new.run n.texts.contracts d.contracts n.height c.call.ensures.refused));
    }

pub returns-clause-steps : goal.returns-clause-steps
returns-clause-steps c =
    let n = c.self.inside in
    let d : Deployed = c.with_bounds-contracts.result.deployed.now in
    let same : d ≡ n.contracts.deployed = c.with_bounds-contracts.ensures.deployed ∙ c.in_ok-reprice.ensures.same in
    let texts : c.scope_over-scope.result.contracts.now.contracts ≡ n.texts.contracts = ap (λ (t : TableParts). t.contracts) c.scope_over-scope.ensures.contracts in
    let height : c.scope_over-scope.result.frame.now.height ≡ n.height = ap (λ (F : Frame). F.height) (ap frame_seen c.scope_over-scope.ensures.frame ∙ c.frame_of-frame.ensures) in
    let before : Seen = seen n.run.world.stack.top (contracts_seen n.texts.contracts) n.height in
    let after : Seen = seen c.call.new.run.world.stack.top (contracts_seen n.texts.contracts) n.height in
    let entry : Entry = call_entry c.args.invocation.now in
    let sound : IsSound d.contracts before = subst (λ (e : Deployed). IsSound e.contracts before) (sym same) c.self.invariant.sound in
    let steps : IfOk c.call.result (λ a. MakesSound (function_of c.at-table.result.now) d.contracts before entry a.result d.contracts after) =
    subst (λ (p : List CostFn × (List ContractOfCode × ℕ)). IfOk c.call.result (λ a. MakesSound (function_of p.0) d.contracts (seen n.run.world.stack.top (contracts_seen p.1.0) p.1.1) entry a.result d.contracts (seen c.call.new.run.world.stack.top (contracts_seen p.1.0) p.1.1)))
    (λ i. (c.scope_over-scope.ensures.costs i, (texts i, height i))) c.call.ensures.steps in
    subst (λ (m : Seen). IfOk c.call.result (λ a. Makes c.args.costs.now m entry a.result after)) c.self.view_is
    (all_made c.args.costs.now d.contracts d.contracts before after entry (function_of c.at-table.result.now) (ap function_of c.at-table.ensures) sound c.requires (λ a. a.result) c.call.result steps)

pub returns-clause-agrees : goal.returns-clause-agrees
returns-clause-agrees c =
    let n = c.self.inside in
    let d : Deployed = c.with_bounds-contracts.result.deployed.now in
    let same : d ≡ n.contracts.deployed = c.with_bounds-contracts.ensures.deployed ∙ c.in_ok-reprice.ensures.same in
    let texts : c.scope_over-scope.result.contracts.now.contracts ≡ n.texts.contracts = ap (λ (t : TableParts). t.contracts) c.scope_over-scope.ensures.contracts in
    let height : c.scope_over-scope.result.frame.now.height ≡ n.height = ap (λ (F : Frame). F.height) (ap frame_seen c.scope_over-scope.ensures.frame ∙ c.frame_of-frame.ensures) in
    let before : Seen = seen n.run.world.stack.top (contracts_seen n.texts.contracts) n.height in
    let entry : Entry = call_entry c.args.invocation.now in
    let claims = c.new-self-inside.result.claims.now in
    let sound : IsSound d.contracts before = subst (λ (e : Deployed). IsSound e.contracts before) (sym same) c.self.invariant.sound in
    subst (λ (m : Seen × List Claim). IfOk c.call.result (λ a. AgreesWith c.args.costs.now m.0 entry a.result.outcome m.1 a.agreement)) (λ i. (c.self.view_is i, c.new-self-inside.ensures.claims i))
    (all_agree c.args.costs.now d.contracts before entry (function_of c.at-table.result.now) (ap function_of c.at-table.ensures) sound claims c.call.result
    (subst (λ (p : List CostFn × (List ContractOfCode × ℕ)). IfOk c.call.result (λ a. AgreesUnder (function_of p.0) d.contracts (seen n.run.world.stack.top (contracts_seen p.1.0) p.1.1) entry a.result.outcome claims a.agreement))
    (λ i. (c.scope_over-scope.ensures.costs i, (texts i, height i))) c.call.ensures.agrees))
