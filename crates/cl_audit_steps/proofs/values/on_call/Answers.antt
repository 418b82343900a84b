use Rattle.cl_audit_steps.specs.Seen.{seen}
use Rattle.cl_audit_steps.proofs.ValueLaws.{ends_as, called_as, not_called}
use Rattle.cl_audit_steps.proofs.values.on_call.Goals as goal

pub returns-in-Some : goal.returns-in-Some
returns-in-Some c outer take enter s = ends_as _ _ _ (seen c.args.scope.now outer) take enter s (called_as _ c.in-Some.function enter (seen c.args.scope.now outer) c.args.values.items s c.in-Some.ensures) c.uncharged_end.ensures

pub returns-in-None : goal.returns-in-None
returns-in-None c outer take enter s = ends_as _ _ _ (seen c.args.scope.now outer) take enter s (not_called _ enter (seen c.args.scope.now outer) c.args.values.items s c.in-None.ensures) c.uncharged_end-in-None.ensures
