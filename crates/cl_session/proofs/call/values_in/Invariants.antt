use Rattle.std.proofs.Common.{◌≡◌, drop, map}
use Rattle.cl_request.proofs.Joined.{joined}
use Rattle.cl_session.specs.Calls.{values_in}
use Rattle.cl_session.proofs.call.values_in.Given as goal

abbrev pub invariant-loop-piece : goal.invariant-loop-piece
invariant-loop-piece l = values_in (map (λ p. p.now) l.pieces) ≡ joined l.values.items (values_in (map (λ p. p.now) (drop l.piece-index l.pieces)))
