use Rattle.std.proofs.Common.{ap, ◌∙◌}
use Rattle.cl_code.specs.declared.op.Applied.{Applied}
use Rattle.cl_forms.specs.HeadNames.{head_of_row}
use Rattle.cl_code.specs.Nodes.{has_own_applied, goes_applied}
use Rattle.cl_judging.proofs.UseNames.{native_text, native_is_own, native_in_version, native_gives, native_nothing, function_applies, function_nothing, function_own, function_goes}
use Rattle.cl_judging.proofs.uses.use_of.Goals as goal

pub returns-in-Some-clause-text : goal.returns-in-Some-clause-text
returns-in-Some-clause-text c = native_text c.args.ctx.now c.args.name c.in-Some.row.head (ap head_of_row c.in-Some.ensures) c.native_use.result c.native_use.ensures

pub returns-in-Some-clause-own : goal.returns-in-Some-clause-own
returns-in-Some-clause-own c = native_is_own c.args.ctx.now c.args.name c.in-Some.row.head (ap head_of_row c.in-Some.ensures) c.native_use.result c.native_use.ensures

pub returns-in-Some-clause-goes : goal.returns-in-Some-clause-goes
returns-in-Some-clause-goes c = native_in_version c.args.ctx.now c.args.name c.in-Some.row.head (ap head_of_row c.in-Some.ensures) c.native_use.result c.native_use.ensures

pub returns-in-Some-clause-some : goal.returns-in-Some-clause-some
returns-in-Some-clause-some c = native_gives c.args.ctx.now c.args.name c.in-Some.row.head (ap head_of_row c.in-Some.ensures) c.native_use.result c.native_use.ensures

pub returns-in-Some-clause-none : goal.returns-in-Some-clause-none
returns-in-Some-clause-none c = native_nothing c.args.ctx.now c.args.name c.in-Some.row.head (ap head_of_row c.in-Some.ensures) c.native_use.result c.native_use.ensures

pub returns-in-Some-function_under-clause-own : goal.returns-in-Some-function_under-clause-own
returns-in-Some-function_under-clause-own c = ap (λ (a : Applied). has_own_applied a) c.function_use.ensures.applied ∙ function_own c.args.name

pub returns-in-Some-function_under-clause-goes : goal.returns-in-Some-function_under-clause-goes
returns-in-Some-function_under-clause-goes c = ap (goes_applied c.args.ctx.now.version) c.function_use.ensures.applied ∙ function_goes c.args.ctx.now.version c.args.name c.in_default.ensures

pub returns-in-Some-function_under-clause-some : goal.returns-in-Some-function_under-clause-some
returns-in-Some-function_under-clause-some c = function_applies c.args.ctx.now c.args.name c.in_default.ensures c.in-Some-function_under.f.now c.function_use.result.usable c.in-Some-function_under.ensures c.function_use.ensures.usable

pub returns-clause-none : goal.returns-clause-none
returns-clause-none c = function_nothing c.args.ctx.now c.args.name c.in_default.ensures c.in_default-function_under.ensures
