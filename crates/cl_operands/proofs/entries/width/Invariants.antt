use Rattle.std.proofs.Common.{◌≡◌, drop}
use Rattle.std.specs.Prelude.{is_some}
use Rattle.cl_meaning.specs.Sequences.{all_entries}
use Rattle.cl_operands.proofs.entries.width.Given as goal

abbrev pub invariant-loop-sequence : goal.invariant-loop-sequence
invariant-loop-sequence l = is_some (all_entries (drop l.sequence-index l.sequences)) ≡ is_some (all_entries l.sequences)
