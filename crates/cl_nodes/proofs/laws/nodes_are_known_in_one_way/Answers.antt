use Rattle.cl_nodes.proofs.Knowing.{one_node}
use Rattle.cl_nodes.proofs.laws.nodes_are_known_in_one_way.Goals as goal

pub returns : goal.returns
returns c = one_node c.forms_have_one_answer.ensures.one_end
