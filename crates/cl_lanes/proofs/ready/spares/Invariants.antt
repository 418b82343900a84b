use Rattle.std.proofs.Common.{take}
use Rattle.cl_lanes.specs.Lanes.{Spares}
use Rattle.cl_lanes.proofs.ready.spares.Given as goal

abbrev pub invariant-loop-entry : goal.invariant-loop-entry
invariant-loop-entry l = Spares l.touched.keys (take l.entry-index l.wrote)
