use Rattle.cl_replies.specs.Kept.{HasReached}
use Rattle.cl_replies.proofs.root.step_all.Given as goal

abbrev pub invariant-loop-place : goal.invariant-loop-place
invariant-loop-place l = HasReached l.costs l.file l.place l.node
