use Rattle.std.proofs.Common.{◌≡◌, List, [], ◌∷◌, sym, ap, subst, ◌∙◌}
use Rattle.cl_events.specs.State.{State}
use Rattle.cl_state.specs.Stack.{Stack}
use Rattle.cl_costs.specs.Tables.{function_of}
use Rattle.cl_nodes.specs.Asked.{call_entry}
use Rattle.cl_nodes.specs.Seen.{seen}
use Rattle.cl_nodes.specs.Steps.{MakesSound}
use Rattle.cl_audit_steps.specs.Seen.{contracts_seen}
use Rattle.cl_audit_walk.specs.declared.run.Run.{Run}
use Rattle.cl_audit_entries.specs.Agreeing.{AgreesUnder}
use Rattle.cl_audit_entries.proofs.Calls.{closed_agrees, closed_makes}
use Rattle.cl_audit_entries.proofs.call.call.Goals as goal

pub returns-in_ok-result-in-Ok-clause-steps : goal.returns-in_ok-result-in-Ok-clause-steps
returns-in_ok-result-in-Ok-clause-steps c =
    let i = c.args.invocation.now in
    let S = c.args.scope.now in
    let height = S.frame.now.height in
    let cs = c.args.contracts.now in
    let texts = S.contracts.now.contracts in
    let es = cs.deployed.now.contracts in
    let pushed : Run = record c.args.run.now { world = c.push_layer.new.self } in
    let closed : Run = record c.evaluate.new.run { world = c.close.new.world } in
    let below : c.evaluate.new.run.world.stack.below ≡ c.push_layer.new.self.stack.top ∷ [] =
    c.evaluate.ensures.below ∙ ap (λ (k : Stack). k.below) c.in_ok-push_layer.ensures.done ∙ ap (λ (b : List State). c.args.run.now.world.stack.top ∷ b) c.requires.base ∙ sym (ap (λ (k : Stack). k.top ∷ []) c.in_ok-push_layer.ensures.done) in
    subst (λ (s : State). MakesSound (function_of S.costs.now) es (seen s (contracts_seen texts) height) (call_entry i) c.in_ok-result-in-Ok.result es (seen c.close.new.world.stack.top (contracts_seen texts) height)) (ap (λ (k : Stack). k.top) c.in_ok-push_layer.ensures.done)
    (λ known sound. closed_makes i S.costs.now height texts cs pushed c.in-Ok.called c.evaluate.new.run c.in-Ok.ensures.ended c.in_ok-result-in-Ok.result closed (λ node at. c.in_ok-result-in-Ok.ensures.closed node (ap (λ (t : State). t ∷ []) at ∙ sym below)) known sound)

pub returns-in_ok-result-in-Ok-clause-agrees : goal.returns-in_ok-result-in-Ok-clause-agrees
returns-in_ok-result-in-Ok-clause-agrees c =
    let i = c.args.invocation.now in
    let S = c.args.scope.now in
    let height = S.frame.now.height in
    let cs = c.args.contracts.now in
    let texts = S.contracts.now.contracts in
    let es = cs.deployed.now.contracts in
    let pushed : Run = record c.args.run.now { world = c.push_layer.new.self } in
    let closed : Run = record c.evaluate.new.run { world = c.close.new.world } in
    let below : c.evaluate.new.run.world.stack.below ≡ c.push_layer.new.self.stack.top ∷ [] =
    c.evaluate.ensures.below ∙ ap (λ (k : Stack). k.below) c.in_ok-push_layer.ensures.done ∙ ap (λ (b : List State). c.args.run.now.world.stack.top ∷ b) c.requires.base ∙ sym (ap (λ (k : Stack). k.top ∷ []) c.in_ok-push_layer.ensures.done) in
    subst (λ (s : State). AgreesUnder (function_of S.costs.now) es (seen s (contracts_seen texts) height) (call_entry i) c.in_ok-result-in-Ok.result.outcome c.args.run.now.cursor.claims.now c.in-Ok.called.agreement) (ap (λ (k : Stack). k.top) c.in_ok-push_layer.ensures.done)
    (closed_agrees i S.costs.now height texts cs pushed c.in-Ok.called c.evaluate.new.run c.in-Ok.ensures.ended c.in_ok-result-in-Ok.result closed (λ node at. c.in_ok-result-in-Ok.ensures.closed node (ap (λ (t : State). t ∷ []) at ∙ sym below)))
