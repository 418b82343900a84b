use Rattle.std.proofs.Common.{Some, sym, subst}
use Rattle.cl_forms.specs.Forms.{FunctionForm}
use Rattle.cl_code.specs.declared.definition.Definition.{Definition}
use Rattle.cl_check.specs.JudgingForms.{IsDefined}
use Rattle.cl_check.proofs.JudgedForms.{form_fails, no_memory, body_back, function_holds}
use Rattle.cl_check.proofs.forms.function.Goals as goal

pub returns-in-Err : goal.returns-in-Err
returns-in-Err c = form_fails c.args.ctx.now c.args.ctx.now (Some c.args.name.now) (FunctionForm c.args.access c.args.params.now c.args.e.now) c.args.span c.in-Err.fault (body_back c.args.ctx.now (FunctionForm c.args.access c.args.params.now c.args.e.now) c.args.span c.in-Err.fault c.in-Err.ensures.found)

pub returns-in_err-kept : goal.returns-in_err-kept
returns-in_err-kept c = no_memory c.args.ctx.now c.args.ctx.now (record { name = Some c.args.name.now; kind = FunctionForm c.args.access c.args.params.now c.args.e.now; span = c.args.span }) c.from_residual.result c.from_residual.ensures.1

pub returns-in_err-params : goal.returns-in_err-params
returns-in_err-params c = no_memory c.args.ctx.now c.add_function.new.ctx (record { name = Some c.args.name.now; kind = FunctionForm c.args.access c.args.params.now c.args.e.now; span = c.args.span }) c.from_residual-in_err-params.result c.from_residual-in_err-params.ensures.1

pub returns-in_err-add_function : goal.returns-in_err-add_function
returns-in_err-add_function c = no_memory c.args.ctx.now c.add_function.new.ctx (record { name = Some c.args.name.now; kind = FunctionForm c.args.access c.args.params.now c.args.e.now; span = c.args.span }) c.from_residual-in_err-add_function.result c.from_residual-in_err-add_function.ensures.1

pub returns : goal.returns
returns c = subst (λ (d : Definition). IsDefined c.args.ctx.now (record { name = Some c.args.name.now; kind = FunctionForm c.args.access c.args.params.now c.args.e.now; span = c.args.span }) d c.add_function.new.ctx) (sym c.defined.ensures)
    (function_holds c.args.ctx.now c.add_function.new.ctx c.args.name.now c.args.span c.args.access c.in_ok-params.params c.args.params.now c.args.e.now c.in-Ok.body c.in_ok-kept.kept c.in_ok-params.ensures c.in-Ok.ensures.found c.in-Ok.ensures.text c.in_ok-kept.ensures c.in_ok-add_function.ensures.names c.in_ok-add_function.ensures.shown)
