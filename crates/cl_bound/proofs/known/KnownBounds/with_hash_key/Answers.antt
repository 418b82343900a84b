use Rattle.cl_bound.proofs.Knowing.{none_known}
use Rattle.cl_bound.proofs.known.KnownBounds.with_hash_key.Goals as goal

pub returns : goal.returns
returns c table = none_known table (record { contracts = c.with_hasher.result }) c.with_hasher.ensures.empty
