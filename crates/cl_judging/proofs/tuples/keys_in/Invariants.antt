use Rattle.std.proofs.Common.{◌≡◌, take}
use Rattle.cl_rules.specs.DataShapes.{keys_of}
use Rattle.cl_judging.proofs.tuples.keys_in.Given as goal

abbrev pub invariant-loop-pair : goal.invariant-loop-pair
invariant-loop-pair l = l.keys.items ≡ keys_of (take l.pair-index l.pairs)
