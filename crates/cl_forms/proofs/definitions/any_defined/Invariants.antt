use Rattle.std.proofs.Common.{◌≡◌, is_some, map, drop}
use Rattle.std.specs.List.{list_any}
use Rattle.indexmap.specs.IndexMap.{get}
use Rattle.cl_forms.specs.Names.{same}
use Rattle.cl_forms.proofs.definitions.any_defined.Given as goal

abbrev pub invariant-loop-param : goal.invariant-loop-param
invariant-loop-param l = list_any (λ p. is_some (get same l.names p)) (map (λ p. p.0) (drop l.param-index l.params)) ≡ list_any (λ p. is_some (get same l.names p)) (map (λ p. p.0) l.params)
