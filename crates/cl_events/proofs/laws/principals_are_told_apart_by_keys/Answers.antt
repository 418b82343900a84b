use Rattle.cl_events.proofs.Holders.{same_by_key}
use Rattle.cl_events.proofs.laws.principals_are_told_apart_by_keys.Goals as goal

pub returns : goal.returns
returns c = same_by_key
