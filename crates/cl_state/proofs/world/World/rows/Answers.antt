use Rattle.std.proofs.Common.{subst}
use Rattle.std.proofs.lemmas.Result.{IfOk-weaker}
use Rattle.cl_state.specs.Stack.{Seen}
use Rattle.cl_tables.specs.StateRows.{AreRows, IsListed}
use Rattle.cl_state.proofs.ToldStates.{rows_told}
use Rattle.cl_state.proofs.Listed.{listed_told}
use Rattle.cl_state.proofs.world.World.rows.Goals as goal

pub returns-clause-rows : goal.returns-clause-rows
returns-clause-rows c =
    IfOk-weaker c.rows.result _ _ (λ rows are.
    subst (λ (s : Seen). AreRows rows.items s.stack.top) c.self.view_is (rows_told c.self.inside.history.state c.self.inside.events.items c.self.inside.moves.items rows.items are))
    c.rows.ensures.rows

pub returns-clause-listed : goal.returns-clause-listed
returns-clause-listed c =
    subst (λ (s : Seen). IsListed s.stack.top) c.self.view_is (listed_told c.self.inside.history.state c.self.inside.events.items c.self.inside.moves.items c.rows.ensures.listed)
