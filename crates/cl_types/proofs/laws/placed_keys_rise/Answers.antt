use Rattle.cl_types.proofs.Rising.{placed_rises}
use Rattle.cl_types.proofs.laws.placed_keys_rise.Goals as goal

pub returns : goal.returns
returns c = placed_rises
