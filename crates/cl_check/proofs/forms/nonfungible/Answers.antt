use Rattle.std.proofs.Common.{Some}
use Rattle.cl_forms.specs.Forms.{NonFungibleForm}
use Rattle.cl_check.proofs.JudgedForms.{no_memory, nonfungible_made}
use Rattle.cl_check.proofs.forms.nonfungible.Goals as goal

pub returns-in_err-kept : goal.returns-in_err-kept
returns-in_err-kept c = no_memory c.args.ctx.now c.args.ctx.now (record { name = Some c.args.name.now; kind = NonFungibleForm c.args.id.now; span = c.args.span }) c.from_residual.result c.from_residual.ensures.1

pub returns-in_err-id : goal.returns-in_err-id
returns-in_err-id c = no_memory c.args.ctx.now c.add_nonfungible.new.ctx (record { name = Some c.args.name.now; kind = NonFungibleForm c.args.id.now; span = c.args.span }) c.from_residual-in_err-id.result c.from_residual-in_err-id.ensures.1

pub returns-in_err-add_nonfungible : goal.returns-in_err-add_nonfungible
returns-in_err-add_nonfungible c = no_memory c.args.ctx.now c.add_nonfungible.new.ctx (record { name = Some c.args.name.now; kind = NonFungibleForm c.args.id.now; span = c.args.span }) c.from_residual-in_err-add_nonfungible.result c.from_residual-in_err-add_nonfungible.ensures.1

pub returns : goal.returns
returns c = nonfungible_made c.args.ctx.now c.add_nonfungible.new.ctx c.args.name.now c.args.span c.in_ok-add_nonfungible.ensures.names c.args.id.now c.in_ok-kept.kept c.in_ok-id.id c.in_ok-kept.ensures c.in_ok-id.ensures c.in_ok-add_nonfungible.ensures.shown
