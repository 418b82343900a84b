use Rattle.std.proofs.Common.{◌≡◌, take}
use Rattle.cl_post.specs.Post.{fitting}
use Rattle.cl_file.specs.Files.{total}
use Rattle.cl_file.proofs.holders.total.Given as goal

abbrev pub invariant-loop-i : goal.invariant-loop-i
invariant-loop-i l = l.sum ≡ fitting (total (take l.i l.holders.entries))
