use Rattle.std.proofs.Common.{List, sym, ap, subst, ◌∙◌}
use Rattle.cl_shapes.specs.declared.function.CostFn.{CostFn}
use Rattle.cl_costs.specs.Tables.{function_of}
use Rattle.cl_types.specs.Fault.{IsRefusal}
use Rattle.cl_meaning.specs.Scope.{Frame}
use Rattle.cl_newness.specs.Newness.{HasNoTokens}
use Rattle.cl_tx.specs.declared.outcome.TxResult.{TxResult}
use Rattle.cl_tx.specs.Nodes.{NodeSeen}
use Rattle.cl_tx.specs.Step.{DeploySteps}
use Rattle.cl_nodes.specs.Seen.{node_with, seen}
use Rattle.cl_nodes.specs.Sound.{contracts_seen}
use Rattle.cl_nodes.specs.Steps.{MakesSound}
use Rattle.cl_nodes.specs.Asked.{deployment_entry, principal_of, seen_at, text_in}
use Rattle.cl_engine.specs.Asked.{SeesPartUnder, SeesTraceUnder}
use Rattle.cl_nodes.specs.Bounded.{entries_of}
use Rattle.cl_nodes.specs.Accepting.{IsDeployRefusal}
use Rattle.cl_engine.proofs.Ran.{addable, after_accepted, makes, no_tokens, sees, sees_part}
use Rattle.cl_engine.proofs.Tracing.{sees_refused}
use Rattle.cl_engine.proofs.deploy.deploy_in_room.Goals as goal

pub returns-in-Err-Refused-clause-steps : goal.returns-in-Err-Refused-clause-steps
returns-in-Err-Refused-clause-steps g c = λ known sound.
    let d = c.args.deployment.now in
    let cs = c.args.contracts.now in
    let node : NodeSeen = node_with known (seen_at c.args.world.now cs.deployed c.args.moment.now) in
    let refusal = subst (λ f. IsRefusal f (IsDeployRefusal d cs)) c.in-Err-Refused.field-0-is c.in-Err-Refused.ensures.refused in
    record {
      now = known;
      trees = sound.trees;
      forms = sound.forms;
      steps = subst (λ (n : List CostFn × TxResult). DeploySteps (function_of n.0) node d.common.now (principal_of d) (text_in d) (record { node = node; result = n.1 })) (λ i. (c.requires.table i, sym c.refused.ensures i)) (refusal node sound.trees);
    }

pub run-requires-clause-accepted : goal.run-requires-clause-accepted
run-requires-clause-accepted g c =
    after_accepted c.args.deployment.now c.args.moment.now c.args.contracts.now c.args.world.now c.in-Ok.prepared c.in-Ok.ensures.prepared c.requires.ready.sound.known c.requires.ready.sound.is_sound

pub run-requires-clause-home : goal.run-requires-clause-home
run-requires-clause-home g c = c.in-Ok.ensures.prepared.accepted.checked.principal_is ∙ sym (ap (λ (F : Frame). F.contract) c.in-Ok.ensures.prepared.frame)

pub run-requires-clause-tokens : goal.run-requires-clause-tokens
run-requires-clause-tokens g c =
    subst (λ q. HasNoTokens q c.args.world.now.stack.top) (sym (ap (λ (F : Frame). F.contract) c.in-Ok.ensures.prepared.frame))
    (no_tokens c.args.deployment.now c.args.moment.now c.args.contracts.now c.args.world.now c.in-Ok.prepared c.in-Ok.ensures.prepared c.requires.ready.sound c.new_contracts_have_no_tokens.ensures c.requires.ready.parts)

pub returns-in_err-ran-clause-seen : goal.returns-in_err-ran-clause-seen
returns-in_err-ran-clause-seen g c =
    let d = c.args.deployment.now in
    let cs = c.args.contracts.now in
    let now = g.W.Watch.seen c.run.new.watch in
    sees_refused _ (function_of c.args.moment.now.costs.now) (entries_of cs) (seen_at c.args.world.now cs.deployed c.args.moment.now) (deployment_entry d) c.from_residual.result (g.W.Watch.seen c.args.watch.now) now c.from_residual.ensures.1
    (subst (λ (t : List CostFn). SeesPartUnder (function_of t) (entries_of cs) (seen_at c.args.world.now cs.deployed c.args.moment.now) (deployment_entry d) (g.W.Watch.seen c.args.watch.now) now) c.requires.table
    (sees_part d c.args.moment.now cs c.args.world.now c.in-Ok.prepared c.in-Ok.ensures.prepared c.texts_have_one_answer.ensures.clean c.texts_have_one_order.ensures.order (g.W.Watch.seen c.args.watch.now) now c.in_err-ran.ensures.seen))

pub finish-requires-clause-addable : goal.finish-requires-clause-addable
finish-requires-clause-addable g c =
    addable c.args.deployment.now c.args.moment.now c.args.contracts.now c.args.world.now c.in-Ok.prepared c.in-Ok.ensures.prepared c.requires.ready.sound c.constants_have_their_types.ensures c.what_callers_know.ensures.constants c.requires.ready.parts c.in_ok-ran.ran c.run.new.world.stack.top c.in_ok-ran.ensures.runs

pub returns-clause-steps : goal.returns-clause-steps
returns-clause-steps g c =
    let d = c.args.deployment.now in
    let m = c.args.moment.now in
    let cs = c.args.contracts.now in
    let fs = c.finish.new.contracts.deployed.contracts in
    let after = c.run.new.world.stack.top in
    subst (λ (t : List CostFn). MakesSound (function_of t) (entries_of cs) (seen_at c.args.world.now cs.deployed m) (deployment_entry d) c.finish.result fs (seen after (contracts_seen fs) m.height)) c.requires.table
    (makes d m cs c.args.world.now c.in-Ok.prepared c.in-Ok.ensures.prepared c.what_callers_know.ensures.defined c.in_ok-ran.ran after c.in_ok-ran.ensures.runs c.finish.result c.finish.ensures.result fs c.finish.ensures.added)

pub returns-clause-seen : goal.returns-clause-seen
returns-clause-seen g c =
    let d = c.args.deployment.now in
    let m = c.args.moment.now in
    let cs = c.args.contracts.now in
    let now = g.W.Watch.seen c.run.new.watch in
    subst (λ (t : List CostFn). SeesTraceUnder (function_of t) (entries_of cs) (seen_at c.args.world.now cs.deployed m) (deployment_entry d) c.finish.result.outcome (g.W.Watch.seen c.args.watch.now) now) c.requires.table
    (sees d m cs c.args.world.now c.in-Ok.prepared c.in-Ok.ensures.prepared c.in_ok-ran.ran c.finish.result.outcome (ap (λ (r : TxResult). r.outcome) c.finish.ensures.result) (g.W.Watch.seen c.args.watch.now) now c.in_ok-ran.ensures.seen)
