use Rattle.std.proofs.Common.{rules}
use Rattle.cl_calls.proofs.frame.called.Goals as goal

pub returns : goal.returns
returns c = search rules
