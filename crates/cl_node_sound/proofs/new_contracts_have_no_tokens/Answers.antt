use Rattle.cl_node_sound.proofs.NewContracts.{no_tokens}
use Rattle.cl_node_sound.proofs.new_contracts_have_no_tokens.Goals as goal

pub returns : goal.returns
returns c = no_tokens
