use Rattle.std.proofs.Common.{refl, sym, subst}
use Rattle.cl_costs.specs.Tables.{function_of}
use Rattle.cl_forms.specs.Texts.{text_of}
use Rattle.cl_tx.specs.Seen.{SourceBreak}
use Rattle.cl_nodes.proofs.Deployments.{checked_so}
use Rattle.cl_exports.specs.declared.verdict.Verdict.TheVariants.{Refused}
use Rattle.cl_exports.specs.Checking.{IsVerdictAfter}
use Rattle.cl_exports.proofs.Judging.{breaks, judged}
use Rattle.cl_exports.proofs.checking.judge.Goals as goal

pub returns-in-Ok-verdict : goal.returns-in-Ok-verdict
returns-in-Ok-verdict c =
    let d = c.args.deployed.now in
    let p = c.args.principal.now in
    let text = text_of c.args.source.now c.args.version in
    judged d (function_of c.args.costs.now) p text c.in-Ok.checked
    (checked_so d.contracts p p text c.in-Ok.checked refl c.in-Ok.ensures.principal c.in-Ok.ensures.version c.in-Ok.ensures.length c.is_well_formed.ensures.indexed c.in-Ok.ensures.found)
    c.are_known.ensures.known c.in-Ok-verdict.verdict c.in-Ok-verdict.ensures

pub returns-in-Err-Refused : goal.returns-in-Err-Refused
returns-in-Err-Refused c =
    let d = c.args.deployed.now in
    let costs = function_of c.args.costs.now in
    let p = c.args.principal.now in
    let text = text_of c.args.source.now c.args.version in
    subst (λ (b : SourceBreak). IsVerdictAfter d costs p text (Refused b)) (sym (rw c.in-Err-Refused.field-0-is at c.new.ensures))
    (breaks d costs p text c.are_known.ensures.known c.in-Err-Refused.refusal (rw c.in-Err-Refused.field-0-is at c.in-Err-Refused.ensures.broken))
