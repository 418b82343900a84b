use Rattle.std.proofs.Common.{sym, ap, ◌∙◌}
use Rattle.cl_shapes.specs.declared.name.CostName.TheVariants.{Literal}
use Rattle.cl_meaning.specs.Names.{standing}
use Rattle.cl_audit_steps.proofs.leaves.principal_start.Goals as goal

pub returns : goal.returns
returns c S take enter s = sym (ap (λ v. standing Literal v s) c.principal_value.ensures) ∙ c.value_start.ensures S take enter s
