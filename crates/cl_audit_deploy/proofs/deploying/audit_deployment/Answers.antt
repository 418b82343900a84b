use Rattle.std.proofs.Common.{subst}
use Rattle.cl_audit.specs.Agrees.{IsAgreement}
use Rattle.cl_audit.proofs.Auditing.{behind_call, claims_of_call}
use Rattle.cl_audit_deploy.specs.Deploying.{trace_of_deployment}
use Rattle.cl_audit_deploy.proofs.Charges.{remembers}
use Rattle.cl_audit_deploy.proofs.deploying.audit_deployment.Goals as goal

pub returns-clause-agrees : goal.returns-clause-agrees
returns-clause-agrees c known =
    let told = trace_of_deployment c.args.scope.now c.args.contract.now c.args.run.now in
    let still = remembers c.audited_deployment-end.result c.audited_deployment-end.new.contract known in
    let at = behind_call c.args.scope.now _ told c.args.run.now.cursor _ _ _ still c.requires.first c.requires.agreed c.audited_deployment-end.ensures.audits.deployment in
    let claims = claims_of_call c.args.scope.now _ told c.args.run.now.cursor _ _ _ still c.audited_deployment-end.ensures.audits.deployment in
    subst (λ cs. IsAgreement told cs.now c.agreement_of-agreement.result) claims (c.agreement_of-agreement.ensures told at)
