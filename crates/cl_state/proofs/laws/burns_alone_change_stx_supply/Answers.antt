use Rattle.cl_state.proofs.StxSupply.{acted_supply}
use Rattle.cl_state.proofs.laws.burns_alone_change_stx_supply.Goals as goal

pub returns : goal.returns
returns c = acted_supply
