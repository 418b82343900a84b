use Rattle.std.proofs.Common.{◌≡◌, drop, map}
use Rattle.cl_code.specs.Typed.{type_of}
use Rattle.cl_bound.specs.Own.{least_with}
use Rattle.cl_bound.proofs.sizes.least_with.Given as goal

abbrev pub invariant-loop-part : goal.invariant-loop-part
invariant-loop-part l = least_with l.least (map type_of (drop l.part-index l.parts)) ≡ least_with l.first (map type_of l.parts)
