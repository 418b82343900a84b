use Rattle.std.proofs.Common.{subst}
use Rattle.cl_tables.specs.Notes.{Past}
use Rattle.cl_state.specs.Sums.{HasSums}
use Rattle.cl_tables.specs.Tables.{held_in}
use Rattle.cl_state.proofs.Listed.{sound_has_sums}
use Rattle.cl_state.proofs.history.History.has_sums.Goals as goal

pub returns : goal.returns
returns c = subst (λ (p : Past). HasSums p.state) c.self.view_is (sound_has_sums (held_in c.self.inside.tables) c.self.invariant.1)
