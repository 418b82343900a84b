use Rattle.std.proofs.Common.{◌∙◌, ap}
use Rattle.cl_maps.specs.Maps.{put}
use Rattle.cl_tables.specs.Spots.{begins_so, is_wanted}
use Rattle.cl_tables.proofs.Joined.{wanted_so, chosen}
use Rattle.cl_tables.proofs.grafts.put_row.Goals as goal

pub returns-in_ok-make_slot : goal.returns-in_ok-make_slot
returns-in_ok-make_slot c =
    let test = is_wanted c.args.wanted (begins_so c.args.fronts.now) in
    c.write.ensures.content ∙ ap (put c.args.key.now c.args.value) c.in_ok-make_slot.ensures.content
    ∙ chosen (test c.args.key.now) _ c.args.table.now.content (wanted_so c.args.wanted c.begins_so.result (begins_so c.args.fronts.now c.args.key.now) c.begins_so.ensures c.if-begins_so-wanted.true)
