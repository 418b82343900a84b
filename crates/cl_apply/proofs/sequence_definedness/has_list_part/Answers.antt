use Rattle.std.proofs.Common.{◌-◌, ◌∙◌}
use Rattle.cl_seq.proofs.Between.{is_part, list_part_fine}
use Rattle.cl_apply.proofs.SequenceLaws.{list_part, no_list_part}
use Rattle.cl_apply.proofs.sequence_definedness.has_list_part.Goals as goal

pub wraps_list-requires : goal.wraps_list-requires
wraps_list-requires c =
    list_part_fine c.args.left (c.args.right - c.args.left) c.args.values.now c.in-Some.part.now c.requires
    (is_part c.args.left c.args.right c.args.values.now c.in-Some.part.now c.in-Some.ensures)

pub returns-in-Some : goal.returns-in-Some
returns-in-Some c = c.wraps_list.ensures ∙ list_part c.args.left c.args.right c.args.values.now c.in-Some.part.now c.in-Some.ensures

pub returns-in-None : goal.returns-in-None
returns-in-None c = no_list_part c.args.left c.args.right c.args.values.now c.in-None.ensures
