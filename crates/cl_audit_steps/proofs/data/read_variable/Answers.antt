use Rattle.std.proofs.Common.{refl, sym, ◌∙◌}
use Rattle.cl_audit_steps.specs.Seen.{seen}
use Rattle.cl_audit_steps.proofs.DataLaws.{read_known, read_unknown}
use Rattle.cl_audit_steps.proofs.ValueLaws.{charged_as, ends_as}
use Rattle.cl_audit_steps.proofs.data.read_variable.Goals as goal

pub returns-in-Some : goal.returns-in-Some
returns-in-Some c outer take enter = charged_as _ _ _ _ _ _ _ (seen c.args.scope.now outer) take enter _ (read_known (seen c.args.scope.now outer) c.args.name.now _ _ (sym c.in-Some.is ∙ c.in_ok-value.ensures)) c.of-charge.ensures refl c.charged_end.ensures

pub returns-in-None : goal.returns-in-None
returns-in-None c outer take enter = ends_as _ _ _ (seen c.args.scope.now outer) take enter _ (read_unknown (seen c.args.scope.now outer) c.args.name.now _ (sym c.in-None.is ∙ c.in_ok-value.ensures)) c.uncharged_end.ensures
