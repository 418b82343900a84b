use Rattle.std.proofs.Common.{subst}
use Rattle.cl_audit.specs.Agrees.{IsAgreement}
use Rattle.cl_audit.specs.Calls.{trace_of_call}
use Rattle.cl_audit.proofs.Auditing.{behind_call, claims_of_call}
use Rattle.cl_audit.proofs.calls.audit_call.Goals as goal

pub returns-clause-agrees : goal.returns-clause-agrees
returns-clause-agrees c known =
    let told = trace_of_call c.args.scope.now c.args.function.now c.args.values.now c.args.run.now in
    let at = behind_call c.args.scope.now _ told c.args.run.now.cursor _ _ _ known c.requires.first c.requires.agreed c.audited_call-end.ensures.call in
    let claims = claims_of_call c.args.scope.now _ told c.args.run.now.cursor _ _ _ known c.audited_call-end.ensures.call in
    subst (λ cs. IsAgreement told cs.now c.agreement_of-agreement.result) claims (c.agreement_of-agreement.ensures told at)
