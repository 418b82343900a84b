use Rattle.std.proofs.Common.{take}
use Rattle.std.specs.List.{AllByRecursion}
use Rattle.cl_footprint.specs.Named.{IsNamed}
use Rattle.cl_footprint.proofs.named.are_named.Given as goal

abbrev pub invariant-loop-definition : goal.invariant-loop-definition
invariant-loop-definition l = AllByRecursion IsNamed (take l.definition-index l.definitions)
