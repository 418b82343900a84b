use Rattle.cl_tx.proofs.StepLaws.{height_is_last}
use Rattle.cl_tx.proofs.laws.heights_are_those_of_the_file.Goals as goal

pub returns : goal.returns
returns c = height_is_last
