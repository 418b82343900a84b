use Rattle.std.proofs.Common.{◌≡◌, ◌++◌, take}
use Rattle.std.specs.List.{flat_map}
use Rattle.cl_replies.specs.Reports.{side_line}
use Rattle.cl_replies.proofs.root_lines.write_sides.Given as goal

abbrev pub invariant-loop-side : goal.invariant-loop-side
invariant-loop-side l = l.out.items ≡ l.initial.out.items ++ flat_map side_line (take l.side-index l.path)
