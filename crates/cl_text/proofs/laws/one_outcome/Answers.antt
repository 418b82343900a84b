use Rattle.cl_text.proofs.Outcomes.{one_outcome}
use Rattle.cl_text.proofs.laws.one_outcome.Goals as goal

pub returns : goal.returns
returns c = one_outcome c.one_reading.ensures.reading c.one_reading.ensures.either c.one_reading.ensures.first
