use Rattle.std.proofs.Common.{◌≡◌, take}
use Rattle.cl_state.proofs.told.copy_moves.Given as goal

abbrev pub invariant-loop-moved : goal.invariant-loop-moved
invariant-loop-moved l = l.copies.items ≡ take l.moved-index l.moves
