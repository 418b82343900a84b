use Rattle.std.proofs.Common.{subst}
use Rattle.cl_tables.specs.Notes.{Past, past_of}
use Rattle.cl_tables.specs.Covering.{Writes}
use Rattle.cl_tables.specs.Tables.{held_in}
use Rattle.cl_tables.proofs.Covering.{kept_thinned, written_thinned}
use Rattle.cl_state.proofs.history.History.thin.Goals as goal

pub invariant_of-self : goal.invariant_of-self
invariant_of-self c = kept_thinned c.self.inside.tables c.args.low c.self.inside.notes.items c.thin_notes.new.notes.items c.thin_notes.ensures c.self.invariant

pub returns : goal.returns
returns c =
    subst (λ (p : Past). Writes c.args.low p.state p (past_of c.thin_notes.new.notes.items (held_in c.self.inside.tables))) c.self.view_is
    (written_thinned c.self.inside.tables c.args.low c.self.inside.notes.items c.thin_notes.new.notes.items c.thin_notes.ensures)
