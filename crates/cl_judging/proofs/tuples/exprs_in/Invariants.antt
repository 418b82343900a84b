use Rattle.std.proofs.Common.{◌≡◌, map, take}
use Rattle.cl_judging.proofs.tuples.exprs_in.Given as goal

abbrev pub invariant-loop-pair : goal.invariant-loop-pair
invariant-loop-pair l = map (λ e. e.now) l.exprs.items ≡ map (λ p. p.1) (take l.pair-index l.pairs)
