use Rattle.std.proofs.Common.{◌≡◌, drop, ◌++◌}
use Rattle.cl_typing.specs.Tuples.{unlike}
use Rattle.cl_typing.proofs.tuples.merged.Given as goal

abbrev pub invariant-loop-field : goal.invariant-loop-field
invariant-loop-field l = l.row.items ++ unlike l.second (drop l.field-index l.first) ≡ unlike l.second l.first

abbrev pub invariant-loop-field-2 : goal.invariant-loop-field-2
invariant-loop-field-2 l = l.row.items ++ drop l.field-index l.second ≡ unlike l.second l.first ++ l.second
