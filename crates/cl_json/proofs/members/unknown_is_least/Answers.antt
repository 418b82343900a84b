use Rattle.cl_json.proofs.Least.{least_unknown}
use Rattle.cl_json.proofs.members.unknown_is_least.Goals as goal

pub returns : goal.returns
returns c = least_unknown
