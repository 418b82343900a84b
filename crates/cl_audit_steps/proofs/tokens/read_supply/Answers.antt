use Rattle.std.proofs.Common.{refl}
use Rattle.cl_audit_steps.specs.Seen.{seen}
use Rattle.cl_audit_steps.proofs.TokenLaws.{not_there, supply_is}
use Rattle.cl_audit_steps.proofs.ValueLaws.{charged_as}
use Rattle.cl_audit_steps.proofs.tokens.read_supply.Goals as goal

pub returns-then-not-has_ft : goal.returns-then-not-has_ft
returns-then-not-has_ft c outer take enter = charged_as _ _ _ _ _ _ _ (seen c.args.scope.now outer) take enter _ refl c.in_ok-charge.ensures (not_there _ _ _ _ c.has_ft.ensures c.if-not-has_ft.true) c.charged_end.ensures

pub returns : goal.returns
returns c outer take enter = charged_as _ _ _ _ _ _ _ (seen c.args.scope.now outer) take enter _ refl c.in_ok-charge.ensures (supply_is _ _ _ _ _ c.has_ft.ensures c.if-not-has_ft.false c.supply.ensures c.uint_value-supply.ensures) c.charged_end-2.ensures
