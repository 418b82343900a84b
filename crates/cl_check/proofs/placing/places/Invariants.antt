use Rattle.std.proofs.Common.{map}
use Rattle.cl_code.specs.Definitions.{form_defined}
use Rattle.cl_check.specs.Placing.{PlacedTo}
use Rattle.cl_check.proofs.placing.places.Given as goal

abbrev pub invariant-loop-place : goal.invariant-loop-place
invariant-loop-place l = PlacedTo (map form_defined l.definitions) l.place l.places.entries
