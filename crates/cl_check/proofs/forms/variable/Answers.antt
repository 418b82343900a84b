use Rattle.std.proofs.Common.{Some}
use Rattle.cl_forms.specs.Forms.{VariableForm}
use Rattle.cl_check.proofs.JudgedForms.{form_fails, no_memory, variable_made}
use Rattle.cl_check.proofs.forms.variable.Goals as goal

pub returns-in-Err : goal.returns-in-Err
returns-in-Err c = form_fails c.args.ctx.now c.args.ctx.now (Some c.args.name.now) (VariableForm c.args.ty.now c.args.e.now) c.args.span c.in-Err.fault c.in-Err.ensures.variable

pub returns-in_err-kept : goal.returns-in_err-kept
returns-in_err-kept c = no_memory c.args.ctx.now c.args.ctx.now (record { name = Some c.args.name.now; kind = VariableForm c.args.ty.now c.args.e.now; span = c.args.span }) c.from_residual.result c.from_residual.ensures.1

pub returns-in_err-ty : goal.returns-in_err-ty
returns-in_err-ty c = no_memory c.args.ctx.now c.add_variable.new.ctx (record { name = Some c.args.name.now; kind = VariableForm c.args.ty.now c.args.e.now; span = c.args.span }) c.from_residual-in_err-ty.result c.from_residual-in_err-ty.ensures.1

pub returns-in_err-add_variable : goal.returns-in_err-add_variable
returns-in_err-add_variable c = no_memory c.args.ctx.now c.add_variable.new.ctx (record { name = Some c.args.name.now; kind = VariableForm c.args.ty.now c.args.e.now; span = c.args.span }) c.from_residual-in_err-add_variable.result c.from_residual-in_err-add_variable.ensures.1

pub returns : goal.returns
returns c = variable_made c.args.ctx.now c.add_variable.new.ctx c.args.name.now c.args.span c.in_ok-add_variable.ensures.names c.args.ty.now c.args.e.now c.in-Ok.found c.in_ok-kept.kept c.in_ok-ty.ty c.into_code.result c.in_ok-kept.ensures c.in_ok-ty.ensures c.into_code.ensures c.in-Ok.ensures.variable c.in-Ok.ensures.text c.in_ok-add_variable.ensures.shown
