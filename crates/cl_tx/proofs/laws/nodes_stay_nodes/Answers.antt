use Rattle.cl_tx.proofs.StepLaws.{first_is, node_stays, runs_end}
use Rattle.cl_tx.proofs.laws.nodes_stay_nodes.Goals as goal

pub returns-clause-first : goal.returns-clause-first
returns-clause-first c = first_is

pub returns-clause-step : goal.returns-clause-step
returns-clause-step c = node_stays

pub returns-clause-run : goal.returns-clause-run
returns-clause-run c = runs_end
