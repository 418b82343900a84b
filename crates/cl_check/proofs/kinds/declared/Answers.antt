use Rattle.std.proofs.Common.{true, false, [], ◌∷◌, Some, refl, sym, ap, ◌∙◌}
use Rattle.std.specs.Prelude.{nat_lt}
use Rattle.cl_types.specs.Types.{admits}
use Rattle.cl_forms.specs.Forms.{VariableForm, FungibleForm}
use Rattle.cl_rules.specs.FormRules.{most_height}
use Rattle.cl_sexpr.specs.declared.rule.Rule.TheVariants.{ArgumentKind, TooDeepCalls}
use Rattle.cl_check.proofs.JudgedKinds.{kind_fails, kind_holds, kind_refused, declared_rules, supply_rules}
use Rattle.cl_check.proofs.kinds.declared.Goals as goal

pub returns-in-Err-clause-variable : goal.returns-in-Err-clause-variable
returns-in-Err-clause-variable c = kind_fails c.args.ctx.now (VariableForm c.args.ty.now c.args.e.now) [] c.args.e.now c.args.span refl c.requires.nested c.in-Err.fault c.in-Err.ensures.found

pub returns-then-not-admits-clause-variable : goal.returns-then-not-admits-clause-variable
returns-then-not-admits-clause-variable c = kind_refused c.args.ctx.now (VariableForm c.args.ty.now c.args.e.now) [] c.args.e.now c.args.span refl c.requires.nested c.in-Ok.checked ArgumentKind c.broken.result (λ f. []) c.broken.ensures c.in-Ok.ensures.found (λ f same. declared_rules c.args.ty.now c.args.e.now c.in-Ok.checked false (nat_lt most_height c.in-Ok.checked.height) (sym c.if-not-admits.true ∙ c.admits.ensures ∙ ap (admits c.args.ty.now) c.result.ensures) refl f same)

pub returns-then-is_too_high-clause-variable : goal.returns-then-is_too_high-clause-variable
returns-then-is_too_high-clause-variable c = kind_refused c.args.ctx.now (VariableForm c.args.ty.now c.args.e.now) [] c.args.e.now c.args.span refl c.requires.nested c.in-Ok.checked TooDeepCalls c.broken-then-is_too_high.result (λ f. []) c.broken-then-is_too_high.ensures c.in-Ok.ensures.found (λ f same. declared_rules c.args.ty.now c.args.e.now c.in-Ok.checked true true (sym c.if-not-admits.false ∙ c.admits.ensures ∙ ap (admits c.args.ty.now) c.result.ensures) (sym c.if-is_too_high.true ∙ c.is_too_high.ensures) f same)

pub returns-clause-variable : goal.returns-clause-variable
returns-clause-variable c = kind_holds c.args.ctx.now (VariableForm c.args.ty.now c.args.e.now) [] c.args.e.now c.args.span refl c.requires.nested c.in-Ok.checked c.in-Ok.ensures.found c.in-Ok.ensures.text (λ f same. declared_rules c.args.ty.now c.args.e.now c.in-Ok.checked true false (sym c.if-not-admits.false ∙ c.admits.ensures ∙ ap (admits c.args.ty.now) c.result.ensures) (sym c.if-is_too_high.false ∙ c.is_too_high.ensures) f same)

pub returns-in-Err-clause-supply : goal.returns-in-Err-clause-supply
returns-in-Err-clause-supply c uint = kind_fails c.args.ctx.now (FungibleForm (Some c.args.e.now)) [] c.args.e.now c.args.span refl c.requires.nested c.in-Err.fault c.in-Err.ensures.found

pub returns-then-not-admits-clause-supply : goal.returns-then-not-admits-clause-supply
returns-then-not-admits-clause-supply c uint = kind_refused c.args.ctx.now (FungibleForm (Some c.args.e.now)) [] c.args.e.now c.args.span refl c.requires.nested c.in-Ok.checked ArgumentKind c.broken.result (λ f. []) c.broken.ensures c.in-Ok.ensures.found (supply_rules c.args.ty.now c.args.e.now c.in-Ok.checked (ArgumentKind ∷ []) uint (λ f same. declared_rules c.args.ty.now c.args.e.now c.in-Ok.checked false (nat_lt most_height c.in-Ok.checked.height) (sym c.if-not-admits.true ∙ c.admits.ensures ∙ ap (admits c.args.ty.now) c.result.ensures) refl f same))

pub returns-then-is_too_high-clause-supply : goal.returns-then-is_too_high-clause-supply
returns-then-is_too_high-clause-supply c uint = kind_refused c.args.ctx.now (FungibleForm (Some c.args.e.now)) [] c.args.e.now c.args.span refl c.requires.nested c.in-Ok.checked TooDeepCalls c.broken-then-is_too_high.result (λ f. []) c.broken-then-is_too_high.ensures c.in-Ok.ensures.found (supply_rules c.args.ty.now c.args.e.now c.in-Ok.checked (TooDeepCalls ∷ []) uint (λ f same. declared_rules c.args.ty.now c.args.e.now c.in-Ok.checked true true (sym c.if-not-admits.false ∙ c.admits.ensures ∙ ap (admits c.args.ty.now) c.result.ensures) (sym c.if-is_too_high.true ∙ c.is_too_high.ensures) f same))

pub returns-clause-supply : goal.returns-clause-supply
returns-clause-supply c uint = kind_holds c.args.ctx.now (FungibleForm (Some c.args.e.now)) [] c.args.e.now c.args.span refl c.requires.nested c.in-Ok.checked c.in-Ok.ensures.found c.in-Ok.ensures.text (supply_rules c.args.ty.now c.args.e.now c.in-Ok.checked [] uint (λ f same. declared_rules c.args.ty.now c.args.e.now c.in-Ok.checked true false (sym c.if-not-admits.false ∙ c.admits.ensures ∙ ap (admits c.args.ty.now) c.result.ensures) (sym c.if-is_too_high.false ∙ c.is_too_high.ensures) f same))
