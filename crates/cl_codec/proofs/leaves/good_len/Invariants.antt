use Rattle.std.proofs.Common.{◌≡◌, ◌+◌, drop}
use Rattle.cl_values.specs.Reading.{good_len}
use Rattle.cl_codec.proofs.leaves.good_len.Given as goal

abbrev pub invariant-loop-i : goal.invariant-loop-i
invariant-loop-i l = good_len l.text ≡ l.i + good_len (drop l.i l.text)
