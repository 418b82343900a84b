use Rattle.cl_node_sound.proofs.Entries.{deployed_constants}
use Rattle.cl_node_sound.proofs.constants_have_their_types.Goals as goal

pub returns : goal.returns
returns c = deployed_constants
