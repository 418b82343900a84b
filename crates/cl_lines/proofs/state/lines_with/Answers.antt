use Rattle.std.proofs.Common.{ℕ, Vec, Global}
use Rattle.cl_lines.specs.RowLines.{row_line}
use Rattle.cl_lines.proofs.InTurn.{one_made, each_made}
use Rattle.cl_lines.proofs.state.lines_with.Goals as goal

pub loop-row-preserved : goal.loop-row-preserved
loop-row-preserved c =
    one_made row_line c.args.rows.now (λ (line : Vec ℕ Global). line.items) c.loop-row.lines.items _ c.in_ok-line.line c.loop-row.row-index c.row-item.result c.loop-row-test.true c.row-item.is
    c.in_ok-push.ensures.items c.in_ok-line.ensures c.loop-row.invariant

pub returns : goal.returns
returns c = each_made row_line c.args.rows.now (λ (line : Vec ℕ Global). line.items) c.loop-row.lines.items c.loop-row.row-index c.loop-row-test.false c.loop-row.invariant
