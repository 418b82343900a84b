use Rattle.std.proofs.Common.{Some, ◌∙◌}
use Rattle.cl_forms.specs.Forms.{ConstantForm}
use Rattle.cl_check.proofs.JudgedForms.{form_fails, no_memory, constant_made}
use Rattle.cl_check.proofs.forms.constant.Goals as goal

pub returns-in-Err : goal.returns-in-Err
returns-in-Err c = form_fails c.args.ctx.now c.args.ctx.now (Some c.args.name.now) (ConstantForm c.args.e.now) c.args.span c.in-Err.fault c.in-Err.ensures.constant

pub returns-in_err-ty : goal.returns-in_err-ty
returns-in_err-ty c = no_memory c.args.ctx.now c.args.ctx.now (record { name = Some c.args.name.now; kind = ConstantForm c.args.e.now; span = c.args.span }) c.from_residual.result c.from_residual.ensures.1

pub returns-in_err-add_constant : goal.returns-in_err-add_constant
returns-in_err-add_constant c = no_memory c.args.ctx.now c.add_constant.new.ctx (record { name = Some c.args.name.now; kind = ConstantForm c.args.e.now; span = c.args.span }) c.from_residual-in_err-add_constant.result c.from_residual-in_err-add_constant.ensures.1

pub returns : goal.returns
returns c = constant_made c.args.ctx.now c.add_constant.new.ctx c.args.name.now c.args.span c.in_ok-add_constant.ensures.names c.args.e.now c.in-Ok.found c.in_ok-ty.ty c.into_code.result (c.in_ok-ty.ensures ∙ c.result.ensures) c.into_code.ensures c.in-Ok.ensures.constant c.in-Ok.ensures.text c.in_ok-add_constant.ensures.shown
