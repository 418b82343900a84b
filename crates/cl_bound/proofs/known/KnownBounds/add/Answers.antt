use Rattle.cl_bound.proofs.Knowing.{bounds_more}
use Rattle.cl_bound.proofs.known.KnownBounds.add.Goals as goal

pub returns : goal.returns
returns c table contracts k are of = bounds_more table contracts k c.args.contract c.args.self.now (record { contracts = c.put.new.contracts }) are of c.put.ensures
