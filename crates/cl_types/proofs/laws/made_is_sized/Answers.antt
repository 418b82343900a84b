use Rattle.cl_types.proofs.Made.{made_is_sized}
use Rattle.cl_types.proofs.laws.made_is_sized.Goals as goal

pub returns : goal.returns
returns c = made_is_sized
