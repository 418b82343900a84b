use Rattle.std.proofs.Common.{◌≡◌, take}
use Rattle.std.specs.Prelude.{map}
use Rattle.cl_lines.specs.StateLines.{with_line_feeds}
use Rattle.cl_lines.proofs.state.with_line_feeds.Given as goal

abbrev pub invariant-loop-line : goal.invariant-loop-line
invariant-loop-line l = l.text.items ≡ with_line_feeds (map (λ line. line.items) (take l.line-index l.lines))
