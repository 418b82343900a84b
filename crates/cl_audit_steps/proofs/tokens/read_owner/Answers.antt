use Rattle.std.proofs.Common.{refl, ◌∙◌}
use Rattle.cl_audit_steps.specs.Seen.{seen}
use Rattle.cl_audit_steps.proofs.TokenLaws.{not_there, owner_is}
use Rattle.cl_audit_steps.proofs.ValueLaws.{charged_as}
use Rattle.cl_audit_steps.proofs.tokens.read_owner.Goals as goal

pub returns-then-not-has_nft : goal.returns-then-not-has_nft
returns-then-not-has_nft c outer take enter = charged_as _ _ _ _ _ _ _ (seen c.args.scope.now outer) take enter _ refl c.of-charge.ensures (not_there _ _ _ _ c.has_nft.ensures c.if-not-has_nft.true) c.charged_end.ensures

pub returns : goal.returns
returns c outer take enter = charged_as _ _ _ _ _ _ _ (seen c.args.scope.now outer) take enter _ refl c.of-charge.ensures (owner_is _ _ c.args.id _ _ c.has_nft.ensures c.if-not-has_nft.false c.in_ok-owner.ensures.spelled c.in_ok-owner.ensures.read ∙ c.in_ok-owner_value.ensures (seen c.args.scope.now outer) take enter _) c.charged_end-2.ensures
