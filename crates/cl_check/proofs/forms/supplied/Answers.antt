use Rattle.std.proofs.Common.{Some}
use Rattle.cl_forms.specs.Forms.{FungibleForm}
use Rattle.cl_check.proofs.JudgedForms.{form_fails, no_memory, supplied_made}
use Rattle.cl_check.proofs.forms.supplied.Goals as goal

pub returns-in-Err : goal.returns-in-Err
returns-in-Err c = form_fails c.args.ctx.now c.args.ctx.now (Some c.args.name.now) (FungibleForm (Some c.args.e.now)) c.args.span c.in-Err.fault (c.in-Err.ensures.supply c.in_ok-uint.ensures)

pub returns-in_err-uint : goal.returns-in_err-uint
returns-in_err-uint c = no_memory c.args.ctx.now c.args.ctx.now (record { name = Some c.args.name.now; kind = FungibleForm (Some c.args.e.now); span = c.args.span }) c.from_residual.result c.from_residual.ensures.1

pub returns-in_err-add_fungible : goal.returns-in_err-add_fungible
returns-in_err-add_fungible c = no_memory c.args.ctx.now c.add_fungible.new.ctx (record { name = Some c.args.name.now; kind = FungibleForm (Some c.args.e.now); span = c.args.span }) c.from_residual-in_err-add_fungible.result c.from_residual-in_err-add_fungible.ensures.1

pub returns : goal.returns
returns c = supplied_made c.args.ctx.now c.add_fungible.new.ctx c.args.name.now c.args.span c.in_ok-add_fungible.ensures.names c.args.e.now c.in-Ok.found c.into_code.result c.into_code.ensures (c.in-Ok.ensures.supply c.in_ok-uint.ensures) c.in-Ok.ensures.text c.in_ok-add_fungible.ensures.shown
