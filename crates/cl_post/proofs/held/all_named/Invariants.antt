use Rattle.std.proofs.Common.{◌≡◌, drop, List}
use Rattle.cl_post.specs.declared.condition.Condition.{Condition}
use Rattle.cl_post.specs.Looked.{IsNamed}
use Rattle.cl_post.specs.Post.{all_named}
use Rattle.cl_post.proofs.held.all_named.Given as goal

abbrev pub invariant-loop-made : goal.invariant-loop-made
invariant-loop-made l = (conditions : List Condition) → IsNamed conditions l.named → all_named conditions (drop l.made-index l.moves) ≡ all_named conditions l.moves
