use Rattle.std.proofs.Common.{◌∙◌, ap}
use Rattle.std.specs.Prelude.{Some}
use Rattle.cl_maps.specs.Maps.{put}
use Rattle.cl_events.specs.State.{with_entries}
use Rattle.cl_tables.specs.Notes.{state_of}
use Rattle.cl_tables.specs.Tables.{held_in, rooms_in}
use Rattle.cl_tables.proofs.Changes.{entry_change}
use Rattle.cl_tables.proofs.tables.Tables.put_entry.Goals as goal

pub returns-clause-state : goal.returns-clause-state
returns-clause-state c =
    let m = c.args.self.now.entries.content in
    ap (λ n. with_entries n (state_of (held_in c.args.self.now))) (c.in_ok-before.ensures.done ∙ (λ i. put (c.in_ok-spot.ensures.spelled i) (c.new.ensures i) m))

pub returns-clause-noted : goal.returns-clause-noted
returns-clause-noted c =
    entry_change (held_in c.args.self.now) (rooms_in c.args.self.now) c.put_value.new.table c.in_ok-spot.spot c.in_ok-before.before (Some c.new.result) c.requires (c.args.at.now, c.args.key.now, c.in_ok-spot.ensures.place, c.in_ok-spot.ensures.valid, c.in_ok-spot.ensures.spelled) c.in_ok-before.ensures.before c.in_ok-before.ensures.done c.in_ok-before.ensures.ready c.put_value.ensures.keeps
