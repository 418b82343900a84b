use Rattle.cl_node_sound.proofs.Entries.{calls_step, deployments_step}
use Rattle.cl_node_sound.proofs.entries_come_to_something.Goals as goal

pub returns-clause-calls : goal.returns-clause-calls
returns-clause-calls c = calls_step

pub returns-clause-deployments : goal.returns-clause-deployments
returns-clause-deployments c = deployments_step
