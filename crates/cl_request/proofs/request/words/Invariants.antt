use Rattle.std.proofs.Common.{◌≡◌, drop, map, string_bytes}
use Rattle.cl_request.specs.Request.{words_of}
use Rattle.cl_request.proofs.Joined.{joined}
use Rattle.cl_request.proofs.request.words.Given as goal

abbrev pub invariant-loop-piece : goal.invariant-loop-piece
invariant-loop-piece l = words_of (map (λ p. p.now) l.pieces) ≡ joined (map string_bytes l.words.items) (words_of (map (λ p. p.now) (drop l.piece-index l.pieces)))
