use Rattle.std.proofs.Common.{◌∙◌, ap}
use Rattle.cl_maps.specs.Maps.{put}
use Rattle.cl_tables.proofs.tables.put_value.Goals as goal

pub returns-clause-done : goal.returns-clause-done
returns-clause-done g c = c.replace.ensures.content ∙ ap (put c.args.key.now c.args.value) c.in_ok-make_slot.ensures.content
