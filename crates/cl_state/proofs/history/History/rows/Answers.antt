use Rattle.std.proofs.Common.{subst}
use Rattle.std.proofs.lemmas.Result.{IfOk-weaker}
use Rattle.cl_tables.specs.Notes.{Past}
use Rattle.cl_tables.specs.Tables.{held_in}
use Rattle.cl_tables.specs.StateRows.{AreRows, IsListed}
use Rattle.cl_state.proofs.Listed.{sound_is_listed}
use Rattle.cl_state.proofs.history.History.rows.Goals as goal

pub returns-clause-rows : goal.returns-clause-rows
returns-clause-rows c = IfOk-weaker c.rows.result _ _ (λ rows are. subst (λ (p : Past). AreRows rows.items p.state) c.self.view_is are) c.rows.ensures

pub returns-clause-listed : goal.returns-clause-listed
returns-clause-listed c = subst (λ (p : Past). IsListed p.state) c.self.view_is (sound_is_listed (held_in c.self.inside.tables) c.self.invariant.1)
