use Rattle.std.proofs.Common.{rules}
use Rattle.cl_post.proofs.sum.meets.Goals as goal

pub returns-in-Ge : goal.returns-in-Ge
returns-in-Ge c = search rules
