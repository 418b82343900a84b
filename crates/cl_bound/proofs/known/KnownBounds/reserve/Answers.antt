use Rattle.cl_bound.proofs.Knowing.{still_known}
use Rattle.cl_bound.proofs.known.KnownBounds.reserve.Goals as goal

pub returns-clause-same : goal.returns-clause-same
returns-clause-same c table contracts = still_known c.args.self.now (record { contracts = c.reserve.new.self }) table contracts c.reserve.ensures.entries
