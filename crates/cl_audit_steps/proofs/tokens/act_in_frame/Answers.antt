use Rattle.std.proofs.Common.{sym, ◌∙◌}
use Rattle.cl_audit_steps.specs.Seen.{seen}
use Rattle.cl_audit_steps.proofs.TokenLaws.{other_sender, own_sender}
use Rattle.cl_audit_steps.proofs.tokens.act_in_frame.Goals as goal

pub returns-in-Some : goal.returns-in-Some
returns-in-Some c outer = other_sender (seen c.args.scope.now outer) c.args.kind _ c.args.world.now.stack _ (sym c.sender_refusal.ensures ∙ c.in-Some.is) c.refusal_answer.ensures

pub returns : goal.returns
returns c outer = own_sender (seen c.args.scope.now outer) c.args.kind c.args.world.now.stack _ _ (sym c.sender_refusal.ensures ∙ c.in-None.is) (c.act_there.ensures (seen c.args.scope.now outer))
