use Rattle.std.proofs.Common.{take}
use Rattle.cl_lanes.specs.Same.{AreSame}
use Rattle.cl_lanes.proofs.ready.set_of.Given as goal

abbrev pub invariant-loop-spot : goal.invariant-loop-spot
invariant-loop-spot l = AreSame l.set.keys (take l.spot-index l.spots)
