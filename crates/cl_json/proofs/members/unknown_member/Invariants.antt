use Rattle.std.proofs.Common.{◌≡◌, map}
use Rattle.cl_json.specs.Json.{unknown_member}
use Rattle.serde_json.specs.View.{members_view}
use Rattle.cl_json.proofs.members.unknown_member.Given as goal

abbrev pub invariant-loop-name : goal.invariant-loop-name
invariant-loop-name l =
    unknown_member (map (λ k. k.now) l.known) (members_view l.name-iterator) ≡ unknown_member (map (λ k. k.now) l.known) (members_view l.fn.members.entries)
