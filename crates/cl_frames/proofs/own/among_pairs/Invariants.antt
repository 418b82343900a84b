use Rattle.std.proofs.Common.{◌≡◌, drop}
use Rattle.cl_meaning.specs.Deployed.{value_of}
use Rattle.cl_frames.proofs.own.among_pairs.Given as goal

abbrev pub invariant-loop-pair : goal.invariant-loop-pair
invariant-loop-pair l = value_of l.name (drop l.pair-index l.pairs) ≡ value_of l.name l.pairs
