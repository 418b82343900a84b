use Rattle.std.proofs.Common.{◌≡◌, take}
use Rattle.std.specs.Prelude.{map}
use Rattle.cl_lines.specs.RowLines.{row_line}
use Rattle.cl_lines.proofs.state.lines_with.Given as goal

abbrev pub invariant-loop-row : goal.invariant-loop-row
invariant-loop-row l = map (λ line. line.items) l.lines.items ≡ map (λ r. row_line r) (take l.row-index l.rows)
