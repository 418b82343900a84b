use Rattle.cl_values.specs.Computed.{Gives}
use Rattle.cl_values.specs.Tree.{SomeV}
use Rattle.cl_audit_steps.proofs.TokenLaws.{some_given}
use Rattle.cl_audit_steps.proofs.tokens.some_principal.Goals as goal

pub returns : goal.returns
returns c = some_given c.args.principal c.principal_value.result _ c.is_valid.ensures c.principal_value.ensures (c.computed_last.ensures (Gives (SomeV c.principal_value.result)) c.some.ensures)
