use Rattle.cl_types.specs.SizedParts.{each_part}
use Rattle.cl_types.proofs.laws.parts_are_sized.Goals as goal

pub returns : goal.returns
returns c = each_part
