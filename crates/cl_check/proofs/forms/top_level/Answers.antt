use Rattle.std.proofs.Common.{None}
use Rattle.cl_forms.specs.Forms.{ExpressionForm}
use Rattle.cl_check.proofs.JudgedForms.{form_fails, top_level_made}
use Rattle.cl_check.proofs.forms.top_level.Goals as goal

pub returns-in-Err : goal.returns-in-Err
returns-in-Err c = form_fails c.args.ctx.now c.args.ctx.now None (ExpressionForm c.args.e.now) c.args.span c.in-Err.fault c.in-Err.ensures.expression

pub returns : goal.returns
returns c = top_level_made c.args.ctx.now c.args.span c.args.e.now c.in-Ok.found c.into_code.result c.into_code.ensures c.in-Ok.ensures.expression c.in-Ok.ensures.text
