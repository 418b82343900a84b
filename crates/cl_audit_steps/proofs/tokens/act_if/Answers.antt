use Rattle.cl_audit_steps.specs.Seen.{seen}
use Rattle.cl_audit_steps.proofs.TokenLaws.{known_act, no_known_act}
use Rattle.cl_audit_steps.proofs.tokens.act_if.Goals as goal

pub returns-in-Some : goal.returns-in-Some
returns-in-Some c outer = known_act (seen c.args.scope.now outer) _ _ c.args.world.now.stack _ _ c.in-Some.is (c.act_in_frame.ensures outer)

pub returns-in-None : goal.returns-in-None
returns-in-None c outer = no_known_act (seen c.args.scope.now outer) _ c.args.world.now.stack c.in-None.is
