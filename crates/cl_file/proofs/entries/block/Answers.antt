use Rattle.std.proofs.Common.{◌∙◌}
use Rattle.cl_types.proofs.Faults.{passes}
use Rattle.cl_file.proofs.Chain.{then_ok, then_err}
use Rattle.cl_file.proofs.ReadEquations.{block_is}
use Rattle.cl_file.proofs.entries.block.Goals as goal

pub returns-in_err-height-clause-broken : goal.returns-in_err-height-clause-broken
returns-in_err-height-clause-broken c v = passes c.from_residual.result _ (λ r h. block_is _ _ _ ∙ then_err _ _ _ h) c.from_residual.ensures.1 (c.in_err-height.ensures.broken v)

pub returns-clause-found : goal.returns-clause-found
returns-clause-found c v = block_is _ _ _ ∙ then_ok _ _ _ (c.in_ok-height.ensures.found v)
