use Rattle.cl_lanes.proofs.DoneInTurn.{RanSoFar}
use Rattle.cl_lanes.proofs.in_turn.do_rest.Given as goal

abbrev pub invariant-loop-place : goal.invariant-loop-place
invariant-loop-place l = RanSoFar l.costs l.file l.fn.progress l.progress l.place
