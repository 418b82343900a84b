use Rattle.std.proofs.Common.{◌≡◌, ◌++◌, drop, length, option_map}
use Rattle.cl_operands.specs.Rows.{row_at}
use Rattle.cl_operands.proofs.entries.row_at.Given as goal

abbrev pub invariant-loop-sequence : goal.invariant-loop-sequence
invariant-loop-sequence l = record {
  so_far : option_map (λ r. l.row.items ++ r) (row_at l.place (drop l.sequence-index l.sequences)) ≡ row_at l.place l.sequences;
  count : length l.row.items ≡ l.sequence-index;
}
