use Rattle.cl_contracts.proofs.Once.{once_is}
use Rattle.cl_contracts.proofs.laws.keys_stand_once.Goals as goal

pub returns : goal.returns
returns c = once_is
