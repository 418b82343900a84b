use Rattle.std.proofs.Common.{rules}
use Rattle.cl_post.proofs.sum.added.Goals as goal

pub returns-in-Some : goal.returns-in-Some
returns-in-Some c = search rules
