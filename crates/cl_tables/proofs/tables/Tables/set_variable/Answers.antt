use Rattle.std.proofs.Common.{◌∙◌, ap, refl}
use Rattle.std.specs.Prelude.{Some}
use Rattle.cl_maps.specs.Maps.{put}
use Rattle.cl_events.specs.State.{with_variables}
use Rattle.cl_tables.specs.Notes.{state_of}
use Rattle.cl_tables.specs.Tables.{held_in, rooms_in}
use Rattle.cl_tables.proofs.Changes.{kept_room, variable_change, variable_same}
use Rattle.cl_tables.proofs.tables.Tables.set_variable.Goals as goal

pub returns-in-Some-clause-state : goal.returns-in-Some-clause-state
returns-in-Some-clause-state c =
    let m = c.args.self.now.variables.content in
    ap (λ n. with_variables n (state_of (held_in c.args.self.now))) (c.in-Some.ensures.set ∙ (λ i. put (c.in_ok-key.ensures.spelled i) (c.new.ensures i) m))

pub returns-in-Some-clause-noted : goal.returns-in-Some-clause-noted
returns-in-Some-clause-noted c =
    variable_change (held_in c.args.self.now) (rooms_in c.args.self.now) c.set_value.new.table c.in_ok-key.key (Some c.in-Some.before) c.new.result c.requires (c.args.at.now, c.in_ok-key.ensures.ranges, c.in_ok-key.ensures.spelled)
    c.in-Some.ensures.before c.in-Some.ensures.set c.in-Some.ensures.ready (kept_room c.args.self.now.variables.room c.set_value.new.table.room c.set_value.ensures.room)

pub returns-in-None-clause-absent : goal.returns-in-None-clause-absent
returns-in-None-clause-absent c _ =
    variable_same (held_in c.args.self.now) (rooms_in c.args.self.now) c.set_value.new.table (c.in-None.ensures.absent refl) (kept_room c.args.self.now.variables.room c.set_value.new.table.room c.set_value.ensures.room)
