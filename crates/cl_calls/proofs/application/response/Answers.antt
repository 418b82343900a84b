use Rattle.std.proofs.Common.{rules}
use Rattle.cl_calls.proofs.application.response.Goals as goal

pub returns-in-Response : goal.returns-in-Response
returns-in-Response c = search rules
