use Rattle.cl_values.specs.Computed.{Gives}
use Rattle.cl_values.specs.Tree.{SomeV}
use Rattle.cl_audit_steps.proofs.DataLaws.{some_found}
use Rattle.cl_audit_steps.proofs.data.optional_value.Goals as goal

pub returns-in-Some : goal.returns-in-Some
returns-in-Some c = some_found _ _ _ c.in-Some.is (c.computed_last.ensures (Gives (SomeV c.in-Some.value)) c.some.ensures)
