use Rattle.std.proofs.Common.{◌∙◌, ap}
use Rattle.cl_maps.specs.Maps.{put}
use Rattle.cl_events.specs.State.{with_variables}
use Rattle.cl_tables.specs.Notes.{state_of}
use Rattle.cl_tables.specs.Tables.{held_in, rooms_in}
use Rattle.cl_tables.proofs.Changes.{variable_change}
use Rattle.cl_tables.proofs.tables.Tables.put_variable.Goals as goal

pub returns-clause-state : goal.returns-clause-state
returns-clause-state c =
    let m = c.args.self.now.variables.content in
    ap (λ n. with_variables n (state_of (held_in c.args.self.now))) (c.in_ok-before.ensures.done ∙ (λ i. put (c.in_ok-key.ensures.spelled i) (c.new.ensures i) m))

pub returns-clause-noted : goal.returns-clause-noted
returns-clause-noted c =
    variable_change (held_in c.args.self.now) (rooms_in c.args.self.now) c.put_value.new.table c.in_ok-key.key c.in_ok-before.before c.new.result c.requires (c.args.at.now, c.in_ok-key.ensures.ranges, c.in_ok-key.ensures.spelled)
    c.in_ok-before.ensures.before c.in_ok-before.ensures.done c.in_ok-before.ensures.ready c.put_value.ensures.keeps
