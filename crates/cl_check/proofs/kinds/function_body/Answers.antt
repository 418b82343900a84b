use Rattle.std.proofs.Common.{◌<◌, ◌≤◌, suc, Err, true, false, [], refl, sym, subst, ◌∙◌, arith}
use Rattle.cl_types.specs.declared.fault.Fault.{Fault}
use Rattle.cl_forms.specs.Forms.{FunctionForm}
use Rattle.cl_sexpr.specs.declared.rule.Rule.TheVariants.{NotResponse, TooDeepCalls}
use Rattle.cl_sexpr.specs.declared.rule.Break.{Break}
use Rattle.cl_rules.specs.Faults.{when}
use Rattle.cl_rules.specs.FormRules.{is_too_high}
use Rattle.cl_check.specs.JudgingForms.{FindsBody}
use Rattle.cl_check.proofs.JudgedKinds.{kind_fails, kind_holds, kind_refused, body_fails, body_holds, body_thrown, answer_rules, answer_high, one_higher, low_enough}
use Rattle.cl_check.proofs.kinds.function_body.Goals as goal

pub returns-in-Err-clause-found : goal.returns-in-Err-clause-found
returns-in-Err-clause-found c = body_fails c.args.ctx.now (FunctionForm c.args.access c.args.params.now c.args.e.now) c.args.span c.in-Err.fault (kind_fails c.args.ctx.now (FunctionForm c.args.access c.args.params.now c.args.e.now) c.args.params.now c.args.e.now c.args.span refl c.requires.nested c.in-Err.fault c.in-Err.ensures.found)

pub returns-in-Err-returned-clause-found : goal.returns-in-Err-returned-clause-found
returns-in-Err-returned-clause-found c =
    subst (λ (g : Fault Break). FindsBody c.args.ctx.now (FunctionForm c.args.access c.args.params.now c.args.e.now) c.args.span (Err g)) (sym c.return_fault.ensures)
    (body_thrown c.args.ctx.now c.args.access c.args.params.now c.args.e.now c.in-Ok.checked c.args.span c.requires.nested c.in-Err-returned.fault c.in-Ok.ensures.found c.in-Err-returned.ensures)

pub returns-then-not-may_answer-clause-found : goal.returns-then-not-may_answer-clause-found
returns-then-not-may_answer-clause-found c =
    body_fails c.args.ctx.now (FunctionForm c.args.access c.args.params.now c.args.e.now) c.args.span c.broken.result
    (kind_refused c.args.ctx.now (FunctionForm c.args.access c.args.params.now c.args.e.now) c.args.params.now c.args.e.now c.args.span refl c.requires.nested c.in-Ok.checked NotResponse c.broken.result (λ f. when (is_too_high (suc f.height)) TooDeepCalls []) c.broken.ensures c.in-Ok.ensures.found
    (λ f same. answer_rules c.args.access c.args.params.now c.args.e.now c.in-Ok.checked c.in-Ok-returned.returns false c.in-Ok-returned.ensures (sym c.if-not-may_answer.true ∙ c.may_answer.ensures) f same))

pub returns-then-checked-gt255-clause-found : goal.returns-then-checked-gt255-clause-found
returns-then-checked-gt255-clause-found c =
    let above : 255 < c.in-Ok.checked.height = omega arith in
    body_fails c.args.ctx.now (FunctionForm c.args.access c.args.params.now c.args.e.now) c.args.span c.broken-then-checked-gt255.result
    (kind_refused c.args.ctx.now (FunctionForm c.args.access c.args.params.now c.args.e.now) c.args.params.now c.args.e.now c.args.span refl c.requires.nested c.in-Ok.checked TooDeepCalls c.broken-then-checked-gt255.result (λ f. []) c.broken-then-checked-gt255.ensures c.in-Ok.ensures.found
    (λ f same. answer_high c.args.access c.args.params.now c.args.e.now c.in-Ok.checked c.in-Ok-returned.returns true c.in-Ok-returned.ensures (sym c.if-not-may_answer.false ∙ c.may_answer.ensures) (λ g k. one_higher g c.in-Ok.checked k above) f same))

pub returns-clause-found : goal.returns-clause-found
returns-clause-found c =
    let low : c.in-Ok.checked.height ≤ 255 = omega arith in
    body_holds c.args.ctx.now c.args.access c.args.params.now c.args.e.now c.args.span c.in-Ok.checked c.in-Ok-returned.returns
    (kind_holds c.args.ctx.now (FunctionForm c.args.access c.args.params.now c.args.e.now) c.args.params.now c.args.e.now c.args.span refl c.requires.nested c.in-Ok.checked c.in-Ok.ensures.found c.in-Ok.ensures.text
    (λ f same. answer_high c.args.access c.args.params.now c.args.e.now c.in-Ok.checked c.in-Ok-returned.returns false c.in-Ok-returned.ensures (sym c.if-not-may_answer.false ∙ c.may_answer.ensures) (λ g k. low_enough g c.in-Ok.checked k low) f same))
    c.in-Ok-returned.ensures low
