use Rattle.std.proofs.Common.{◌≡◌, map, drop}
use Rattle.std.specs.List.{list_any}
use Rattle.cl_forms.specs.Heads.{is_reserved}
use Rattle.cl_forms.proofs.definitions.any_reserved.Given as goal

abbrev pub invariant-loop-param : goal.invariant-loop-param
invariant-loop-param l = list_any (is_reserved l.version) (map (λ p. p.0) (drop l.param-index l.params)) ≡ list_any (is_reserved l.version) (map (λ p. p.0) l.params)
