use Rattle.cl_costs.specs.Tables.{function_of}
use Rattle.cl_frames.proofs.Binding.{SameFrom}
use Rattle.cl_calls.proofs.application.bind.Given as goal

abbrev pub invariant-loop-place : goal.invariant-loop-place
invariant-loop-place l = SameFrom (function_of l.costs) l.initial.meter l.function.params.items l.values l.meter l.place
