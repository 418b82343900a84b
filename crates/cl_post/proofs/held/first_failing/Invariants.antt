use Rattle.std.proofs.Common.{◌≡◌, drop, List}
use Rattle.cl_events.specs.declared.event.Move.{Move}
use Rattle.cl_post.specs.Looked.{IsMoved}
use Rattle.cl_post.specs.Post.{failing_from, first_failing}
use Rattle.cl_post.proofs.held.first_failing.Given as goal

abbrev pub invariant-loop-i : goal.invariant-loop-i
invariant-loop-i l = (moves : List Move) → IsMoved moves l.moved → failing_from l.i moves (drop l.i l.conditions) ≡ first_failing moves l.conditions
