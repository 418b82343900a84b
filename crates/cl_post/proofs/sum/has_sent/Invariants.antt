use Rattle.std.proofs.Common.{◌≡◌, drop}
use Rattle.cl_post.specs.Post.{has_sent}
use Rattle.cl_post.proofs.sum.has_sent.Given as goal

abbrev pub invariant-loop-made : goal.invariant-loop-made
invariant-loop-made l = has_sent (drop l.made-index l.moves) l.principal l.asset ≡ has_sent l.moves l.principal l.asset
