use Rattle.cl_node_sound.proofs.Entries.{calls_not_stopped, deployments_not_stopped}
use Rattle.cl_node_sound.proofs.Told.{runs_not_stopped}
use Rattle.cl_node_sound.proofs.bounds_suffice_as_limits.Goals as goal

pub returns-clause-calls : goal.returns-clause-calls
returns-clause-calls c = calls_not_stopped

pub returns-clause-deployments : goal.returns-clause-deployments
returns-clause-deployments c = deployments_not_stopped

pub returns-clause-run : goal.returns-clause-run
returns-clause-run c = runs_not_stopped
