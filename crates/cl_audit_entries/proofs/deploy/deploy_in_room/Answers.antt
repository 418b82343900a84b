use Rattle.std.proofs.Common.{◌≡◌, List, [], None, refl, sym, ap, subst, ◌∙◌}
use Rattle.cl_types.specs.Fault.{IsRefusal}
use Rattle.cl_shapes.specs.declared.function.CostFn.{CostFn}
use Rattle.cl_costs.specs.Tables.{function_of}
use Rattle.cl_contracts.specs.Seen.{contract_under}
use Rattle.cl_c32.specs.declared.principal.Principal.{Principal}
use Rattle.cl_meaning.specs.Deployed.{Contract, contract_at}
use Rattle.cl_meaning.specs.Scope.{Frame}
use Rattle.cl_newness.specs.Newness.{HasNoTokens}
use Rattle.cl_meaning.specs.Trace.{trace_of}
use Rattle.cl_tx.specs.declared.outcome.TxResult.{TxResult}
use Rattle.cl_tx.specs.Nodes.{NodeSeen, purse_of}
use Rattle.cl_tx.specs.Step.{DeploySteps}
use Rattle.cl_nodes.specs.Accepting.{IsDeployRefusal}
use Rattle.cl_nodes.specs.Asked.{deployment_entry, frame_for, principal_of, text_in}
use Rattle.cl_nodes.specs.Bounded.{entries_of}
use Rattle.cl_nodes.specs.Seen.{node_with, seen}
use Rattle.cl_nodes.specs.Steps.{MakesSound, MakesWith}
use Rattle.cl_nodes.specs.Traces.{IsTrace}
use Rattle.cl_audit_steps.specs.declared.scope.Contract.{Contract as ContractOfCode}
use Rattle.cl_audit_steps.specs.Seen.{contracts_seen, frame_seen}
use Rattle.cl_audit_steps.specs.Tables.{TableParts}
use Rattle.cl_audit.specs.declared.agreeing.Agreement.{Agreement}
use Rattle.cl_audit.specs.Agrees.{IsAgreement}
use Rattle.cl_audit_entries.specs.Agreeing.{AgreesUnder}
use Rattle.cl_audit_entries.specs.Deploying.{DeploymentComes, EvaluatesAs, evaluation_left, evaluation_of}
use Rattle.cl_audit_entries.specs.Seen.{AreThose, seen_of}
use Rattle.cl_audit_entries.proofs.Opening.{frame_is, no_tokens, not_there}
use Rattle.cl_audit_entries.proofs.Ran.{comes_as, makes_as, those_after, traced}
use Rattle.cl_audit_entries.proofs.deploy.deploy_in_room.Goals as goal

pub returns-in-Err-Refused-clause-steps : goal.returns-in-Err-Refused-clause-steps
returns-in-Err-Refused-clause-steps c = λ known sound.
    let d = c.args.deployment.now in
    let cs = c.args.contracts.now in
    let node : NodeSeen = node_with known (seen_of c.args.run.now c.args.texts.now.contracts c.args.moment.now.height) in
    let refusal = subst (λ f. IsRefusal f (IsDeployRefusal d cs)) c.in-Err-Refused.field-0-is c.in-Err-Refused.ensures.refused in
    record {
      now = known;
      trees = sound.trees;
      forms = sound.forms;
      steps = subst (λ (n : List CostFn × TxResult). DeploySteps (function_of n.0) node d.common.now (principal_of d) (text_in d) (record { node = node; result = n.1 })) (λ i. (c.requires.table i, sym (c.of_nothing.ensures.given ∙ c.refused.ensures) i)) (refusal node sound.trees);
    }

pub returns-in-Err-Refused-clause-agrees : goal.returns-in-Err-Refused-clause-agrees
returns-in-Err-Refused-clause-agrees c = λ known sound. (
  [],
  subst (λ (r : TxResult). IsTrace (function_of c.args.moment.now.costs.now) (node_with known (seen_of c.args.run.now c.args.texts.now.contracts c.args.moment.now.height)) (deployment_entry c.args.deployment.now) r.outcome []) (sym (c.of_nothing.ensures.given ∙ c.refused.ensures)) refl,
  c.of_nothing.ensures.agrees,
)

pub evaluate-requires-clause-read : goal.evaluate-requires-clause-read
evaluate-requires-clause-read c =
    let sound = c.requires.ready.sound in
    record { ordered = (c.in-Ok.ensures.accepted.checked.found sound.known sound.is_sound.trees).1.is_ordered }

pub evaluate-requires-clause-tokens : goal.evaluate-requires-clause-tokens
evaluate-requires-clause-tokens c =
    subst (λ p. HasNoTokens p c.args.run.now.world.stack.top) (sym c.in-Ok.ensures.accepted.checked.principal_is)
    (no_tokens c.args.deployment.now c.args.moment.now (entries_of c.args.contracts.now) c.args.contracts.now.deployed c.args.texts.now.contracts c.args.run.now refl c.in-Ok.ensures.accepted.new c.requires.ready.those c.requires.ready.sound c.new_contracts_have_no_tokens.ensures c.requires.ready.parts)

pub evaluate-requires-clause-comes : goal.evaluate-requires-clause-comes
evaluate-requires-clause-comes c =
    let d = c.args.deployment.now in
    let m = c.args.moment.now in
    let texts = c.args.texts.now.contracts in
    let sound = c.requires.ready.sound in
    let framed : frame_seen c.scope_over-scope.result.frame.now ≡ frame_for d m = ap frame_seen c.scope_over-scope.ensures.frame ∙ frame_is d m c.principal_of-principal.result c.principal_of-principal.ensures (frame_seen c.frame_of-frame.result) c.frame_of-frame.ensures in
    subst (λ (p : List CostFn × (List ContractOfCode × Frame)). DeploymentComes d.common.now (evaluation_left p.0 p.1.0 p.1.1 d c.in-Ok.accepted c.args.run.now)) (λ i. ((c.requires.table ∙ sym c.scope_over-scope.ensures.costs) i, (sym (ap (λ (t : TableParts). t.contracts) c.scope_over-scope.ensures.contracts) i, sym framed i)))
    (comes_as d m c.args.contracts.now texts c.args.run.now c.in-Ok.accepted c.in-Ok.ensures.accepted sound.known sound.is_sound c.entries_come_to_something.ensures.deployments c.texts_have_one_answer.ensures.clean c.texts_have_one_order.ensures.order c.requires.ready.parts)

pub finish-requires-clause-addable : goal.finish-requires-clause-addable
finish-requires-clause-addable c =
    let is = c.in-Ok.ensures.accepted in
    record {
      new = subst (λ p. contract_under p (entries_of c.args.contracts.now) ≡ None) (sym is.checked.principal_is) is.new.none;
      fits = λ known standing. (
        (is.checked.found known standing).0,
        (is.checked.found known standing).3,
      );
      bounds = is.bounds;
    }

pub finish-requires-clause-new : goal.finish-requires-clause-new
finish-requires-clause-new c =
    let is = c.in-Ok.ensures.accepted in
    subst (λ (p : Principal). contract_at p (contracts_seen c.args.texts.now.contracts) ≡ None)
    (sym (ap (λ (k : Contract). k.principal) c.in_ok-evaluated.ensures.evaluated.bare ∙ is.checked.principal_is))
    (not_there (principal_of c.args.deployment.now) (entries_of c.args.contracts.now) c.args.contracts.now.deployed c.args.texts.now.contracts refl is.new c.requires.ready.those)

pub returns-clause-steps : goal.returns-clause-steps
returns-clause-steps c =
    let d = c.args.deployment.now in
    let m = c.args.moment.now in
    let cs = c.args.contracts.now in
    let texts = c.args.texts.now.contracts in
    let run = c.args.run.now in
    let a = c.in-Ok.accepted in
    let e = c.in_ok-evaluated.evaluated in
    let framed : frame_seen c.scope_over-scope.result.frame.now ≡ frame_for d m = ap frame_seen c.scope_over-scope.ensures.frame ∙ frame_is d m c.principal_of-principal.result c.principal_of-principal.ensures (frame_seen c.frame_of-frame.result) c.frame_of-frame.ensures in
    let evaluated : EvaluatesAs cs.table texts (frame_for d m) d a run e c.evaluate.new.run =
    subst (λ (p : List CostFn × (List ContractOfCode × Frame)). EvaluatesAs p.0 p.1.0 p.1.1 d a run e c.evaluate.new.run)
    (λ i. ((c.scope_over-scope.ensures.costs ∙ sym c.requires.table) i, ((ap (λ (t : TableParts). t.contracts) c.scope_over-scope.ensures.contracts) i, framed i))) c.in_ok-evaluated.ensures.evaluated in
    let after = c.evaluate.new.run.world.stack.top in
    let fs = entries_of c.finish.new.contracts in
    subst (λ (t : List CostFn). MakesSound (function_of t) (entries_of cs) (seen_of run texts m.height) (deployment_entry d) c.finish.result.result fs (seen after (contracts_seen c.finish.new.texts.contracts) m.height)) c.requires.table
    (λ known sound. subst (λ (n : TxResult × List ContractOfCode). MakesWith (function_of cs.table) known (seen_of run texts m.height) (deployment_entry d) n.0 fs (seen after (contracts_seen n.1) m.height)) (λ i. (sym c.finish.ensures.result i, sym c.finish.ensures.texts i))
    (makes_as d m cs texts run a c.in-Ok.ensures.accepted known sound e.ended.ran e.contract evaluated.bare c.what_callers_know.ensures.defined after evaluated.runs fs c.finish.ensures.checked))

pub returns-clause-agrees : goal.returns-clause-agrees
returns-clause-agrees c =
    let d = c.args.deployment.now in
    let m = c.args.moment.now in
    let cs = c.args.contracts.now in
    let texts = c.args.texts.now.contracts in
    let run = c.args.run.now in
    let a = c.in-Ok.accepted in
    let e = c.in_ok-evaluated.evaluated in
    let framed : frame_seen c.scope_over-scope.result.frame.now ≡ frame_for d m = ap frame_seen c.scope_over-scope.ensures.frame ∙ frame_is d m c.principal_of-principal.result c.principal_of-principal.ensures (frame_seen c.frame_of-frame.result) c.frame_of-frame.ensures in
    let evaluated : EvaluatesAs cs.table texts (frame_for d m) d a run e c.evaluate.new.run =
    subst (λ (p : List CostFn × (List ContractOfCode × Frame)). EvaluatesAs p.0 p.1.0 p.1.1 d a run e c.evaluate.new.run)
    (λ i. ((c.scope_over-scope.ensures.costs ∙ sym c.requires.table) i, ((ap (λ (t : TableParts). t.contracts) c.scope_over-scope.ensures.contracts) i, framed i))) c.in_ok-evaluated.ensures.evaluated in
    subst (λ (t : List CostFn). AgreesUnder (function_of t) (entries_of cs) (seen_of run texts m.height) (deployment_entry d) c.finish.result.result.outcome run.cursor.claims.now c.finish.result.agreement) c.requires.table
    (λ known sound. (
      trace_of (function_of cs.table) (purse_of d.common.now) (evaluation_of texts (frame_for d m) a run),
      traced d m cs texts run a c.in-Ok.ensures.accepted known sound e.ended.ran c.finish.result.result.outcome (ap (λ (r : TxResult). r.outcome) c.finish.ensures.result),
      subst (λ (n : Agreement). IsAgreement (trace_of (function_of cs.table) (purse_of d.common.now) (evaluation_of texts (frame_for d m) a run)) run.cursor.claims.now n) (sym c.finish.ensures.agreement) evaluated.agrees,
    ))

pub returns-clause-those : goal.returns-clause-those
returns-clause-those c =
    let e = c.in_ok-evaluated.evaluated in
    subst (λ (ts : List ContractOfCode). AreThose ts c.finish.new.contracts.deployed) (sym c.finish.ensures.texts)
    (those_after c.args.texts.now.contracts c.args.contracts.now.deployed c.finish.new.contracts.deployed c.in-Ok.accepted e.ended.ran e.contract c.in_ok-evaluated.ensures.evaluated.bare c.requires.ready.those c.finish.ensures.checked)
