use Rattle.std.proofs.Common.{◌∙◌}
use Rattle.cl_types.proofs.Faults.{passes}
use Rattle.cl_file.proofs.Chain.{then_ok, then_err}
use Rattle.cl_file.proofs.ReadEquations.{deploy_is}
use Rattle.cl_file.proofs.Filled.{filled_deploy}
use Rattle.cl_file.proofs.entries.deploy.Goals as goal

pub returns-in_err-sender-clause-broken : goal.returns-in_err-sender-clause-broken
returns-in_err-sender-clause-broken c v = passes c.from_residual.result _ (λ r h. deploy_is _ _ _ ∙ then_err _ _ _ h) c.from_residual.ensures.1 (c.in_err-sender.ensures.broken v)

pub returns-clause-found : goal.returns-clause-found
returns-clause-found c v = filled_deploy _ _ _ _ _ _ _ c.common.ensures c.unwrap_or.ensures (deploy_is _ _ _ ∙ then_ok _ _ _ (c.in_ok-sender.ensures.found v))
