use Rattle.std.proofs.Common.{◌≡◌, map, drop}
use Rattle.cl_types.specs.Types.{PlainType}
use Rattle.cl_rules.specs.NativeTypes.{Ruled, lub_then}
use Rattle.cl_typing.proofs.joining.joined.Given as goal

abbrev pub invariant-loop-next : goal.invariant-loop-next
invariant-loop-next l = (make : PlainType → Ruled) → lub_then l.joined (map (λ t. t.now) (drop l.next-index l.others)) make ≡ lub_then l.first (map (λ t. t.now) l.others) make
