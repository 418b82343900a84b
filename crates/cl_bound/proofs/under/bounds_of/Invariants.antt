use Rattle.std.proofs.Common.{take}
use Rattle.cl_costs.specs.Tables.{function_of}
use Rattle.cl_bound.specs.Known.{AreBounds}
use Rattle.cl_bound.proofs.under.bounds_of.Given as goal

abbrev pub invariant-loop-place : goal.invariant-loop-place
invariant-loop-place l = AreBounds (function_of l.costs) (take l.place l.contracts.entries) l.known
