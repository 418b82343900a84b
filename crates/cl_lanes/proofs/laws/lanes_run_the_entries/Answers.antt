use Rattle.cl_lanes.proofs.LanesRun.{lanes_run_the_entries, lanes_give_a_prefix}
use Rattle.cl_lanes.proofs.OneMove.{moves_have_one_result}
use Rattle.cl_lanes.proofs.laws.lanes_run_the_entries.Goals as goal

pub returns-clause-entries : goal.returns-clause-entries
returns-clause-entries c = lanes_run_the_entries c.nodes_stay_nodes.ensures.first c.nodes_stay_nodes.ensures.step

pub returns-clause-prefix : goal.returns-clause-prefix
returns-clause-prefix c = lanes_give_a_prefix c.nodes_stay_nodes.ensures.first c.nodes_stay_nodes.ensures.step c.steps_have_one_result.ensures.step

pub returns-clause-once : goal.returns-clause-once
returns-clause-once c = moves_have_one_result c.steps_have_one_result.ensures.step
