use Rattle.std.proofs.Common.{◌≡◌, [], map, drop}
use Rattle.cl_forms.proofs.Twice.{repeats}
use Rattle.cl_forms.proofs.definitions.repeats.Given as goal

abbrev pub invariant-loop-param : goal.invariant-loop-param
invariant-loop-param l = repeats l.seen.keys (map (λ p. p.0) (drop l.param-index l.params)) ≡ repeats [] (map (λ p. p.0) l.params)
