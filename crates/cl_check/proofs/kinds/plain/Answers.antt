use Rattle.std.proofs.Common.{true, false, [], refl, sym, ◌∙◌}
use Rattle.cl_forms.specs.Forms.{ConstantForm, ExpressionForm}
use Rattle.cl_sexpr.specs.declared.rule.Rule.TheVariants.{TooDeepCalls}
use Rattle.cl_check.proofs.JudgedKinds.{kind_fails, kind_holds, kind_refused, plain_rules}
use Rattle.cl_check.proofs.kinds.plain.Goals as goal

pub returns-in-Err-clause-constant : goal.returns-in-Err-clause-constant
returns-in-Err-clause-constant c = kind_fails c.args.ctx.now (ConstantForm c.args.e.now) [] c.args.e.now c.args.span refl c.requires.nested c.in-Err.fault c.in-Err.ensures.found

pub returns-then-is_too_high-clause-constant : goal.returns-then-is_too_high-clause-constant
returns-then-is_too_high-clause-constant c = kind_refused c.args.ctx.now (ConstantForm c.args.e.now) [] c.args.e.now c.args.span refl c.requires.nested c.in-Ok.checked TooDeepCalls c.broken.result (λ f. []) c.broken.ensures c.in-Ok.ensures.found (λ f same. plain_rules c.in-Ok.checked true (sym c.if-is_too_high.true ∙ c.is_too_high.ensures) f same)

pub returns-clause-constant : goal.returns-clause-constant
returns-clause-constant c = kind_holds c.args.ctx.now (ConstantForm c.args.e.now) [] c.args.e.now c.args.span refl c.requires.nested c.in-Ok.checked c.in-Ok.ensures.found c.in-Ok.ensures.text (λ f same. plain_rules c.in-Ok.checked false (sym c.if-is_too_high.false ∙ c.is_too_high.ensures) f same)

pub returns-in-Err-clause-expression : goal.returns-in-Err-clause-expression
returns-in-Err-clause-expression c = kind_fails c.args.ctx.now (ExpressionForm c.args.e.now) [] c.args.e.now c.args.span refl c.requires.nested c.in-Err.fault c.in-Err.ensures.found

pub returns-then-is_too_high-clause-expression : goal.returns-then-is_too_high-clause-expression
returns-then-is_too_high-clause-expression c = kind_refused c.args.ctx.now (ExpressionForm c.args.e.now) [] c.args.e.now c.args.span refl c.requires.nested c.in-Ok.checked TooDeepCalls c.broken.result (λ f. []) c.broken.ensures c.in-Ok.ensures.found (λ f same. plain_rules c.in-Ok.checked true (sym c.if-is_too_high.true ∙ c.is_too_high.ensures) f same)

pub returns-clause-expression : goal.returns-clause-expression
returns-clause-expression c = kind_holds c.args.ctx.now (ExpressionForm c.args.e.now) [] c.args.e.now c.args.span refl c.requires.nested c.in-Ok.checked c.in-Ok.ensures.found c.in-Ok.ensures.text (λ f same. plain_rules c.in-Ok.checked false (sym c.if-is_too_high.false ∙ c.is_too_high.ensures) f same)
