use Rattle.std.proofs.Common.{ℕ, Vec, Global}
use Rattle.cl_lines.proofs.InTurn.{each_made}
use Rattle.cl_replies.proofs.rows.copies_of.Goals as goal

pub returns : goal.returns
returns c = each_made (λ (line : Vec ℕ Global). line.items) c.args.lines.now (λ (line : Vec ℕ Global). line.items) c.loop-line.copies.items c.loop-line.line-index c.loop-line-test.false c.loop-line.invariant
