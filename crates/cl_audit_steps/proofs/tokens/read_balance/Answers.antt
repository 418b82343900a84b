use Rattle.std.proofs.Common.{refl, ◌∙◌}
use Rattle.cl_audit_steps.specs.Seen.{seen}
use Rattle.cl_audit_steps.proofs.TokenLaws.{not_there, balance_is}
use Rattle.cl_audit_steps.proofs.ValueLaws.{charged_as}
use Rattle.cl_audit_steps.proofs.tokens.read_balance.Goals as goal

pub returns-then-not-has_ft : goal.returns-then-not-has_ft
returns-then-not-has_ft c outer take enter = charged_as _ _ _ _ _ _ _ (seen c.args.scope.now outer) take enter _ refl c.of-charge.ensures (not_there _ _ _ _ c.has_ft.ensures c.if-not-has_ft.true) c.charged_end.ensures

pub returns : goal.returns
returns c outer take enter = charged_as _ _ _ _ _ _ _ (seen c.args.scope.now outer) take enter _ refl c.of-charge.ensures (balance_is _ _ c.args.value _ c.has_ft.ensures c.if-not-has_ft.false ∙ c.in_ok-last.ensures (seen c.args.scope.now outer) take enter _) c.charged_end-2.ensures
