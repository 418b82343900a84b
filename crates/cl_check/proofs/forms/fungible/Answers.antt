use Rattle.std.proofs.Common.{Some, None}
use Rattle.cl_forms.specs.Forms.{FungibleForm}
use Rattle.cl_check.proofs.JudgedForms.{no_memory, fungible_holds}
use Rattle.cl_check.proofs.forms.fungible.Goals as goal

pub returns-in_err-add_fungible : goal.returns-in_err-add_fungible
returns-in_err-add_fungible c = no_memory c.args.ctx.now c.add_fungible.new.ctx (record { name = Some c.args.name.now; kind = FungibleForm None; span = c.args.span }) c.from_residual.result c.from_residual.ensures.1

pub returns : goal.returns
returns c = fungible_holds c.args.ctx.now c.add_fungible.new.ctx c.args.name.now c.args.span c.in_ok-add_fungible.ensures.names c.in_ok-add_fungible.ensures.shown
