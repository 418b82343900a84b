use Rattle.std.proofs.Common.{◌≡◌, ◌++◌, drop}
use Rattle.cl_code.specs.Nodes.{bound_names}
use Rattle.cl_steps.proofs.tuples.names_of.Given as goal

abbrev pub invariant-loop-binding : goal.invariant-loop-binding
invariant-loop-binding l = l.names.items ++ bound_names (drop l.binding-index l.bindings) ≡ bound_names l.bindings
