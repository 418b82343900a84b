use Rattle.std.proofs.Common.{sym, ap, ◌∙◌}
use Rattle.cl_shapes.specs.declared.name.CostName.TheVariants.{Literal}
use Rattle.cl_values.specs.Tree.{PrincipalV}
use Rattle.cl_meaning.specs.Names.{standing}
use Rattle.cl_audit_steps.proofs.leaves.local_start.Goals as goal

pub returns : goal.returns
returns c S take enter s = sym (ap (λ p. standing Literal (PrincipalV p) s) c.beside.ensures) ∙ c.principal_start.ensures S take enter s
