use Rattle.std.proofs.Common.{◌≡◌, ℕ, List, sym, ap, subst, ◌∙◌}
use Rattle.cl_costs.specs.Tables.{function_of}
use Rattle.cl_contracts.specs.declared.parts.Parts.{Parts}
use Rattle.cl_contracts.specs.Seen.{IsIndexed}
use Rattle.cl_meaning.specs.Deployed.{Contract}
use Rattle.cl_meaning.specs.Deploying.{deployment}
use Rattle.cl_meaning.specs.Limits.{limited}
use Rattle.cl_meaning.specs.Trace.{trace_of}
use Rattle.cl_newness.specs.Newness.{HasNoTokens}
use Rattle.cl_tx.specs.Nodes.{purse_of}
use Rattle.cl_nodes.specs.Asked.{text_in}
use Rattle.cl_audit_steps.specs.Seen.{contract_seen, contracts_seen, frame_seen}
use Rattle.cl_audit.specs.Agrees.{IsAgreement}
use Rattle.cl_audit_deploy.specs.Deploying.{without_values}
use Rattle.cl_audit_entries.specs.Deploying.{DeploymentComes, IsOpened, IsReadAs, RunsSo, opened_of}
use Rattle.cl_audit_entries.proofs.Opening.{opened, opened_is}
use Rattle.cl_audit_entries.proofs.deploy.evaluate.Goals as goal

pub contract_of-requires : goal.contract_of-requires
contract_of-requires c = subst (λ (p : Parts). IsReadAs (text_in c.args.deployment.now) p) (sym c.parts-own.ensures) c.requires.read

pub run_deployment-requires-clause-opened : goal.run_deployment-requires-clause-opened
run_deployment-requires-clause-opened c =
    let own : Parts = c.parts-own.result.now in
    let k = c.in_ok-contract.contract in
    subst (λ (ns : List ℕ). IsOpened k ns) (sym c.as_slice-order.ensures.value)
    (opened (text_in c.args.deployment.now) own k
    (subst (λ (p : Parts). IsReadAs (text_in c.args.deployment.now) p) (sym c.parts-own.ensures) c.requires.read)
    (subst (λ (p : Parts). IsIndexed p) (sym c.parts-own.ensures) c.is_well_formed.ensures.indexed)
    c.in_ok-contract.ensures.forms c.in_ok-contract.ensures.constants)

pub run_deployment-requires-clause-tokens : goal.run_deployment-requires-clause-tokens
run_deployment-requires-clause-tokens c =
    subst (λ p. HasNoTokens p c.args.run.now.world.stack.top) (sym (c.in_ok-contract.ensures.principal ∙ ap (λ (p : Parts). p.principal) c.parts-own.ensures)) c.requires.tokens

pub run_deployment-requires-clause-comes : goal.run_deployment-requires-clause-comes
run_deployment-requires-clause-comes c =
    let own : Parts = c.parts-own.result.now in
    let k = c.in_ok-contract.contract in
    let S = c.args.scope.now in
    let common = c.args.deployment.now.common.now in
    let is : contract_seen k ≡ opened_of c.args.accepted.now.checked = opened_is k own c.in_ok-contract.ensures.principal c.in_ok-contract.ensures.version c.in_ok-contract.ensures.forms c.in_ok-contract.ensures.length c.in_ok-contract.ensures.constants ∙ ap opened_of c.parts-own.ensures in
    subst (λ (x : Contract). DeploymentComes common (limited (function_of S.costs.now) (purse_of common) (deployment (contracts_seen S.contracts.now.contracts) (frame_seen S.frame.now) x c.args.run.now.world.stack.top))) (sym is) c.requires.comes

pub returns-clause-evaluated : goal.returns-clause-evaluated
returns-clause-evaluated c =
    let own : Parts = c.parts-own.result.now in
    let k = c.in_ok-contract.contract in
    let S = c.args.scope.now in
    let common = c.args.deployment.now.common.now in
    let s = c.args.run.now.world.stack.top in
    let is : contract_seen k ≡ opened_of c.args.accepted.now.checked = opened_is k own c.in_ok-contract.ensures.principal c.in_ok-contract.ensures.version c.in_ok-contract.ensures.forms c.in_ok-contract.ensures.length c.in_ok-contract.ensures.constants ∙ ap opened_of c.parts-own.ensures in
    record {
      runs = subst (λ (x : Contract). RunsSo common (limited (function_of S.costs.now) (purse_of common) (deployment (contracts_seen S.contracts.now.contracts) (frame_seen S.frame.now) x s)) (contract_seen c.run_deployment.new.contract) c.in_ok-ended.ended.ran s c.run_deployment.new.run.world.stack.top) is c.in_ok-ended.ensures.runs;
      bare = c.run_deployment.ensures.same ∙ ap without_values is;
      agrees = subst (λ (x : Contract). IsAgreement (trace_of (function_of S.costs.now) (purse_of common) (deployment (contracts_seen S.contracts.now.contracts) (frame_seen S.frame.now) x s)) c.args.run.now.cursor.claims.now c.in_ok-ended.ended.agreement) is c.in_ok-ended.ensures.agrees;
    }
