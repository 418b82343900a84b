use Rattle.std.proofs.Common.{◌≡◌, ◌++◌, drop}
use Rattle.cl_lines.specs.Rebounds.{rebound_lines}
use Rattle.cl_lines.proofs.rebounds.write_rebounds.Given as goal

abbrev pub invariant-loop-rebound : goal.invariant-loop-rebound
invariant-loop-rebound l = l.out.items ++ rebound_lines (drop l.rebound-index l.rebounds) ≡ l.initial.out.items ++ rebound_lines l.rebounds
