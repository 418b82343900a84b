use Rattle.cl_node_sound.proofs.Entries.{calls_within, deployments_within}
use Rattle.cl_node_sound.proofs.Told.{runs_within, runs_tell}
use Rattle.cl_node_sound.proofs.costs_stay_within_bounds.Goals as goal

pub returns-clause-calls : goal.returns-clause-calls
returns-clause-calls c = calls_within

pub returns-clause-deployments : goal.returns-clause-deployments
returns-clause-deployments c = deployments_within

pub returns-clause-run : goal.returns-clause-run
returns-clause-run c = runs_within

pub returns-clause-told : goal.returns-clause-told
returns-clause-told c = runs_tell
