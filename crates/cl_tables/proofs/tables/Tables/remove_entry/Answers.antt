use Rattle.std.proofs.Common.{◌∙◌, ap, sym}
use Rattle.std.specs.Prelude.{Some, None}
use Rattle.cl_maps.specs.Maps.{without}
use Rattle.cl_maps.proofs.MapLaws.{without_absent}
use Rattle.cl_events.specs.State.{with_entries}
use Rattle.cl_tables.specs.Notes.{state_of}
use Rattle.cl_tables.specs.Tables.{held_in, rooms_in}
use Rattle.cl_tables.proofs.Changes.{kept_room, entry_change, entry_same}
use Rattle.cl_tables.proofs.tables.Tables.remove_entry.Goals as goal

pub returns-in-Some-clause-state : goal.returns-in-Some-clause-state
returns-in-Some-clause-state c =
    let m = c.args.self.now.entries.content in
    ap (λ n. with_entries n (state_of (held_in c.args.self.now))) (c.take_value.ensures.content ∙ ap (λ k. without k m) c.in_ok-spot.ensures.spelled)

pub returns-in-Some-clause-noted : goal.returns-in-Some-clause-noted
returns-in-Some-clause-noted c =
    entry_change (held_in c.args.self.now) (rooms_in c.args.self.now) c.take_value.new.table c.in_ok-spot.spot (Some c.in-Some.before) None c.requires (c.args.at.now, c.args.key.now, c.in_ok-spot.ensures.place, c.in_ok-spot.ensures.valid, c.in_ok-spot.ensures.spelled) c.in-Some.ensures.before c.take_value.ensures.content c.in-Some.ensures.ready
    (kept_room c.args.self.now.entries.room c.take_value.new.table.room c.take_value.ensures.room)

pub returns-in-None-clause-absent : goal.returns-in-None-clause-absent
returns-in-None-clause-absent c _ =
    entry_same (held_in c.args.self.now) (rooms_in c.args.self.now) c.take_value.new.table (c.take_value.ensures.content ∙ sym (without_absent c.args.self.now.entries.content c.in_ok-spot.spot (sym c.in-None.ensures.before)))
    (kept_room c.args.self.now.entries.room c.take_value.new.table.room c.take_value.ensures.room)
