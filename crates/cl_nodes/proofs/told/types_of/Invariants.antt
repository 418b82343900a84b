use Rattle.std.proofs.Common.{◌≡◌, take, filter_map}
use Rattle.cl_nodes.specs.Accepting.{type_returned}
use Rattle.cl_nodes.proofs.told.types_of.Given as goal

abbrev pub invariant-loop-definition : goal.invariant-loop-definition
invariant-loop-definition l = l.types.items ≡ filter_map type_returned (take l.definition-index l.definitions)
