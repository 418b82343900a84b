use Rattle.std.proofs.Common.{rules}
use Rattle.cl_calls.proofs.deciding.and_ends.Goals as goal

pub returns-else-holds : goal.returns-else-holds
returns-else-holds c = search rules
