use Rattle.std.proofs.Common.{take}
use Rattle.cl_replies.specs.Kept.{IsLeastOf}
use Rattle.cl_replies.proofs.rows.least_row.Given as goal

abbrev pub invariant-loop-place : goal.invariant-loop-place
invariant-loop-place l = IsLeastOf l.rows (take l.place l.rows) l.line l.least
