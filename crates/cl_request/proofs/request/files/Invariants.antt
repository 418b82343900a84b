use Rattle.std.proofs.Common.{◌≡◌, map, length}
use Rattle.cl_ports.specs.Memory.{held_of}
use Rattle.cl_request.specs.Request.{files_of}
use Rattle.cl_request.proofs.Joined.{joined}
use Rattle.cl_request.proofs.request.files.Given as goal

abbrev pub invariant-loop-rest : goal.invariant-loop-rest
invariant-loop-rest l = files_of (map (λ p. p.now) l.pieces) ≡ joined (held_of l.files.items) (files_of (map (λ p. p.now) l.rest))

abbrev pub decreases-loop-rest : goal.decreases-loop-rest
decreases-loop-rest l = length l.rest
