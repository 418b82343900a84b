use Rattle.std.proofs.Common.{Some}
use Rattle.cl_forms.specs.Forms.{MapForm}
use Rattle.cl_check.proofs.JudgedForms.{no_memory, map_made}
use Rattle.cl_check.proofs.forms.map_of.Goals as goal

pub returns-in_err-kept_key : goal.returns-in_err-kept_key
returns-in_err-kept_key c = no_memory c.args.ctx.now c.args.ctx.now (record { name = Some c.args.name.now; kind = MapForm c.args.key.now c.args.value.now; span = c.args.span }) c.from_residual.result c.from_residual.ensures.1

pub returns-in_err-kept_value : goal.returns-in_err-kept_value
returns-in_err-kept_value c = no_memory c.args.ctx.now c.args.ctx.now (record { name = Some c.args.name.now; kind = MapForm c.args.key.now c.args.value.now; span = c.args.span }) c.from_residual-in_err-kept_value.result c.from_residual-in_err-kept_value.ensures.1

pub returns-in_err-key : goal.returns-in_err-key
returns-in_err-key c = no_memory c.args.ctx.now c.add_map.new.ctx (record { name = Some c.args.name.now; kind = MapForm c.args.key.now c.args.value.now; span = c.args.span }) c.from_residual-in_err-key.result c.from_residual-in_err-key.ensures.1

pub returns-in_err-value : goal.returns-in_err-value
returns-in_err-value c = no_memory c.args.ctx.now c.add_map.new.ctx (record { name = Some c.args.name.now; kind = MapForm c.args.key.now c.args.value.now; span = c.args.span }) c.from_residual-in_err-value.result c.from_residual-in_err-value.ensures.1

pub returns-in_err-add_map : goal.returns-in_err-add_map
returns-in_err-add_map c = no_memory c.args.ctx.now c.add_map.new.ctx (record { name = Some c.args.name.now; kind = MapForm c.args.key.now c.args.value.now; span = c.args.span }) c.from_residual-in_err-add_map.result c.from_residual-in_err-add_map.ensures.1

pub returns : goal.returns
returns c = map_made c.args.ctx.now c.add_map.new.ctx c.args.name.now c.args.span c.in_ok-add_map.ensures.names c.args.key.now c.args.value.now c.in_ok-kept_key.kept_key c.in_ok-kept_value.kept_value c.in_ok-key.key c.in_ok-value.value c.in_ok-kept_key.ensures c.in_ok-kept_value.ensures c.in_ok-key.ensures c.in_ok-value.ensures c.in_ok-add_map.ensures.shown
