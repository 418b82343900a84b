use Rattle.std.proofs.Common.{◌≡◌, [], drop}
use Rattle.cl_forms.proofs.Twice.{repeats}
use Rattle.cl_judging.proofs.tuples.repeats_in.Given as goal

abbrev pub invariant-loop-key : goal.invariant-loop-key
invariant-loop-key l = repeats l.seen.keys (drop l.key-index l.keys) ≡ repeats [] l.keys
