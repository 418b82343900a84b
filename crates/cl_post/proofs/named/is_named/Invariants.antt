use Rattle.std.proofs.Common.{◌≡◌, drop}
use Rattle.cl_post.specs.Post.{is_named}
use Rattle.cl_post.proofs.named.is_named.Given as goal

abbrev pub invariant-loop-condition : goal.invariant-loop-condition
invariant-loop-condition l = is_named (drop l.condition-index l.conditions) l.made ≡ is_named l.conditions l.made
