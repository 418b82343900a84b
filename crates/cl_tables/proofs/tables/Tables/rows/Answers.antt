use Rattle.cl_tables.specs.Notes.{state_of}
use Rattle.cl_tables.specs.Tables.{held_in}
use Rattle.cl_tables.proofs.WholeRows.{rows_of}
use Rattle.cl_tables.proofs.tables.Tables.rows.Goals as goal

pub returns : goal.returns
returns c = rows_of (state_of (held_in c.args.self.now)) c.new-rows.result.items c.add_rows.new.out.items c.new-rows.ensures.items c.in_ok-add_rows.ensures
