use Rattle.cl_seq.proofs.Singles.{listed}
use Rattle.cl_seq.proofs.places.taken_at.Goals as goal

pub returns : goal.returns
returns c = listed c.args.values.items c.args.at c.taken.result c.taken.ensures
