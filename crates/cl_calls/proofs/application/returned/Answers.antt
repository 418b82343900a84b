use Rattle.std.proofs.Common.{rules}
use Rattle.cl_calls.proofs.application.returned.Goals as goal

pub returns-in-Err-Thrown : goal.returns-in-Err-Thrown
returns-in-Err-Thrown c = search rules
