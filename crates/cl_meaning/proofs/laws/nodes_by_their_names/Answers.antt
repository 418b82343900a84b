use Rattle.cl_meaning.proofs.Equations.{means_zero, means_step, node_of_row, node_of_call}
use Rattle.cl_meaning.proofs.laws.nodes_by_their_names.Goals as goal

pub returns-clause-bottom : goal.returns-clause-bottom
returns-clause-bottom c = means_zero

pub returns-clause-step : goal.returns-clause-step
returns-clause-step c = means_step

pub returns-clause-native : goal.returns-clause-native
returns-clause-native c = node_of_row

pub returns-clause-call : goal.returns-clause-call
returns-clause-call c = node_of_call
