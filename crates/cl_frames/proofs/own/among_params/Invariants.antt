use Rattle.std.proofs.Common.{◌≡◌, drop}
use Rattle.cl_meaning.specs.Deployed.{value_of}
use Rattle.cl_frames.specs.Named.{paired}
use Rattle.cl_frames.proofs.own.among_params.Given as goal

abbrev pub invariant-loop-place : goal.invariant-loop-place
invariant-loop-place l = value_of l.name (paired (drop l.place l.function.params.items) (drop l.place l.values)) ≡ value_of l.name (paired l.function.params.items l.values)
