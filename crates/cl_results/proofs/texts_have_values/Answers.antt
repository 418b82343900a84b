use Rattle.cl_results.proofs.ReadValues.{text_is}
use Rattle.cl_results.proofs.texts_have_values.Goals as goal

pub returns : goal.returns
returns c = text_is c.literals_are_within_limits.ensures
