use Rattle.std.proofs.Common.{refl}
use Rattle.cl_meaning.specs.Sequences.{filtered}
use Rattle.cl_audit_steps.specs.Seen.{seen}
use Rattle.cl_audit_steps.proofs.ValueLaws.{charged_as}
use Rattle.cl_audit_steps.proofs.SequenceLaws.{callee_so, no_callee}
use Rattle.cl_audit_steps.proofs.sequences.on_filter.Goals as goal

pub returns-in-Some : goal.returns-in-Some
returns-in-Some c outer take enter s = charged_as _ _ _ _ _ _ _ (seen c.args.scope.now outer) take enter s refl c.of-charge.ensures (callee_so _ _ (filtered enter (seen c.args.scope.now outer) c.args.value) s c.in-Some.ensures) c.charged_end.ensures

pub returns : goal.returns
returns c outer take enter s = charged_as _ _ _ _ _ _ _ (seen c.args.scope.now outer) take enter s refl c.of-charge.ensures (no_callee _ (filtered enter (seen c.args.scope.now outer) c.args.value) s c.in-None.ensures) c.charged_end-in-None.ensures
