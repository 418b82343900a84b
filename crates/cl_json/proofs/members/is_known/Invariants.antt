use Rattle.std.proofs.Common.{◌≡◌, map, drop}
use Rattle.cl_json.specs.Json.{is_known}
use Rattle.cl_json.proofs.members.is_known.Given as goal

abbrev pub invariant-loop-other : goal.invariant-loop-other
invariant-loop-other l = is_known (map (λ k. k.now) (drop l.other-index l.known)) l.name ≡ is_known (map (λ k. k.now) l.known) l.name
