use Rattle.cl_values.proofs.Depths.{no_deeper}
use Rattle.cl_values.proofs.laws.depth_is_greatest.Goals as goal

pub returns : goal.returns
returns c = no_deeper
