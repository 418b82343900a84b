use Rattle.std.proofs.Common.{take}
use Rattle.cl_lanes.specs.Ready.{SparesOne}
use Rattle.cl_lanes.proofs.ready.spares_one.Given as goal

abbrev pub invariant-loop-spot : goal.invariant-loop-spot
invariant-loop-spot l = SparesOne l.touched.keys (take l.spot-index l.wrote)
