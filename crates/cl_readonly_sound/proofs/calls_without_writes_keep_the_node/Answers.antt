use Rattle.cl_readonly_sound.proofs.NodesStay.{calls_keep_nodes, calls_hand_out_prints, read_only_keep_nodes}
use Rattle.cl_readonly_sound.proofs.calls_without_writes_keep_the_node.Goals as goal

pub returns-clause-calls : goal.returns-clause-calls
returns-clause-calls c = calls_keep_nodes

pub returns-clause-events : goal.returns-clause-events
returns-clause-events c = calls_hand_out_prints

pub returns-clause-read_only : goal.returns-clause-read_only
returns-clause-read_only c = read_only_keep_nodes
