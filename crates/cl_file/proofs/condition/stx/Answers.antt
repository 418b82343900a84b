use Rattle.std.proofs.Common.{◌∙◌}
use Rattle.cl_types.proofs.Faults.{passes}
use Rattle.cl_file.proofs.Chain.{then_ok, then_err}
use Rattle.cl_file.proofs.ReadEquations.{stx_is}
use Rattle.cl_file.proofs.condition.stx.Goals as goal

pub returns-in_err-principal-clause-broken : goal.returns-in_err-principal-clause-broken
returns-in_err-principal-clause-broken c v = passes c.from_residual.result _ (λ r h. stx_is _ _ _ ∙ then_err _ _ _ h) c.from_residual.ensures.1 (c.in_err-principal.ensures.broken v)

pub returns-clause-found : goal.returns-clause-found
returns-clause-found c v = stx_is _ _ _ ∙ then_ok _ _ _ (c.in_ok-principal.ensures.found v)
