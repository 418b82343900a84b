use Rattle.std.proofs.Common.{◌≡◌, drop, map}
use Rattle.cl_request.specs.Pieces.{pieces_of}
use Rattle.cl_request.proofs.Joined.{joined}
use Rattle.cl_request.proofs.pieces.cut.Given as goal

abbrev pub invariant-loop-end : goal.invariant-loop-end
invariant-loop-end l = pieces_of l.bytes 0 l.ends ≡ joined (map (λ p. p.now) l.pieces.items) (pieces_of l.bytes l.from (drop l.end-index l.ends))
