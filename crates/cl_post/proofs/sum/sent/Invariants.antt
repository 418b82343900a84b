use Rattle.std.proofs.Common.{◌≡◌, take}
use Rattle.cl_post.specs.Post.{sent, fitting}
use Rattle.cl_post.proofs.sum.sent.Given as goal

abbrev pub invariant-loop-i : goal.invariant-loop-i
invariant-loop-i l = l.sum ≡ fitting (sent (take l.i l.moves) l.principal l.asset)
