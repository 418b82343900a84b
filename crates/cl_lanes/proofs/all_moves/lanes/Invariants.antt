use Rattle.std.proofs.Common.{take}
use Rattle.cl_lanes.proofs.AllMade.{MadeSoFar}
use Rattle.cl_lanes.proofs.all_moves.lanes.Given as goal

abbrev pub invariant-loop-step : goal.invariant-loop-step
invariant-loop-step l = MadeSoFar l.costs l.file l.lanes (take l.step-index l.moves) l.step-index l.progress
