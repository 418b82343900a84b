use Rattle.std.proofs.Common.{ℕ, length, sym, ap, subst, ◌∙◌}
use Rattle.cl_audit_results.specs.Audits.{IsRefusal, claims_of}
use Rattle.cl_audit_results.specs.declared.refusal.AuditRefusal.{AuditRefusal}
use Rattle.cl_audit_reply.specs.Verdicts.{DifferAt}
use Rattle.cl_audit_reply.proofs.There.{audited_length, few_of, refused_verdict}
use Rattle.cl_audit_reply.proofs.reply.verdict_of.Goals as goal

pub audited-requires-clause-few : goal.audited-requires-clause-few
audited-requires-clause-few c = few_of 4294967296 c.args.traces.now c.requires.few

pub report_verdict-requires : goal.report_verdict-requires
report_verdict-requires c = ap length c.as_slice.ensures.value ∙ audited_length c.in_ok-costs.costs c.args.file.now c.args.traces.now c.in-Ok.results.items c.in-Ok.ensures.results

pub returns-in-Err-Refused-Claim : goal.returns-in-Err-Refused-Claim
returns-in-Err-Refused-Claim c =
    let refused = rw c.in-Err-Refused-Claim.field-0-is at c.in-Err-Refused-Claim.ensures.refused in
    let is = rw c.in-Err-Refused-Claim.field-0-is at c.in-Err-Refused-Claim.field-0-0-is in
    let differs = subst (λ (why : AuditRefusal). IsRefusal c.in_ok-costs.costs c.args.file.now c.args.traces.now why) is refused in
    subst (λ (p : ℕ × ℕ). DifferAt c.args.costs.now c.args.file.now (claims_of c.args.traces.now) p.0 p.1) (λ i. (sym c.in-Err-Refused-Claim.entry-is i, sym c.in-Err-Refused-Claim.claim-is i))
    (refused_verdict c.each_file_has_results.ensures.results c.args.costs.now c.args.file.now c.in_ok-file_has_parts.ensures c.args.traces.now c.in_ok-costs.costs c.in_ok-costs.ensures c.in-Err-Refused-Claim.entry c.in-Err-Refused-Claim.claim differs)
