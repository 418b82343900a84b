use Rattle.std.proofs.Common.{◌≡◌, ◌++◌, drop}
use Rattle.cl_lines.specs.Refusals.{names_text}
use Rattle.cl_lines.proofs.refusals.write_names.Given as goal

abbrev pub invariant-loop-name : goal.invariant-loop-name
invariant-loop-name l = l.out.items ++ names_text (drop l.name-index l.names) ≡ l.initial.out.items ++ names_text l.names
