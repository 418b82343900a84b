use Rattle.std.proofs.Common.{◌≡◌, ◌++◌, drop}
use Rattle.cl_lines.specs.Costs.{bound_lines}
use Rattle.cl_lines.proofs.costs.write_functions.Given as goal

abbrev pub invariant-loop-i : goal.invariant-loop-i
invariant-loop-i l = l.out.items ++ bound_lines (drop l.i l.functions) (drop l.i l.types) ≡ l.initial.out.items ++ bound_lines l.functions l.types
