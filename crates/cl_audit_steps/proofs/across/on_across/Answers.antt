use Rattle.cl_meaning.specs.Calls.{enter_there}
use Rattle.cl_audit_steps.specs.Seen.{seen}
use Rattle.cl_audit_steps.proofs.ValueLaws.{ends_as, ends_eq}
use Rattle.cl_audit_steps.proofs.SequenceLaws.{known_there, not_known_there}
use Rattle.cl_audit_steps.proofs.across.on_across.Goals as goal

pub returns-in-Some : goal.returns-in-Some
returns-in-Some c outer = ends_eq (seen c.args.scope.now outer) _ _ _ (λ take enter s. known_there _ _ (enter_there enter (seen c.args.scope.now outer) c.args.name.now c.args.values.items) s c.in-Some.ensures) (c.on_contract.ensures (seen c.args.scope.now outer))

pub returns-in-None : goal.returns-in-None
returns-in-None c outer take enter s = ends_as _ _ _ (seen c.args.scope.now outer) take enter s (not_known_there _ (enter_there enter (seen c.args.scope.now outer) c.args.name.now c.args.values.items) s c.in-None.ensures) c.uncharged_end.ensures
