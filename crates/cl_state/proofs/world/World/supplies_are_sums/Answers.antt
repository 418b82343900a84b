use Rattle.std.proofs.Common.{subst}
use Rattle.cl_state.specs.Stack.{Seen}
use Rattle.cl_state.specs.Sums.{HasSums}
use Rattle.cl_state.proofs.Listed.{sums_told}
use Rattle.cl_state.proofs.world.World.supplies_are_sums.Goals as goal

pub returns : goal.returns
returns c = subst (λ (s : Seen). HasSums s.stack.top) c.self.view_is (sums_told c.self.inside.history.state c.self.inside.events.items c.self.inside.moves.items c.has_sums.ensures)
