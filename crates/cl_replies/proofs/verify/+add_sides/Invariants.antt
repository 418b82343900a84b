use Rattle.std.proofs.Common.{length}
use Rattle.cl_replies.proofs.verify.+add_sides.Given as goal

abbrev pub decreases-add_sides : goal.decreases-add_sides
decreases-add_sides l = length l.words.now
