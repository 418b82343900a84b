use Rattle.std.proofs.Common.{◌-◌, Some, None, option_map, sym, ap, ◌∙◌}
use Rattle.cl_seq.proofs.Between.{list_part_is, is_part, list_part_fine}
use Rattle.cl_seq.proofs.slicing.list_between.Goals as goal

pub counted-requires : goal.counted-requires
counted-requires c = list_part_fine c.args.left (c.args.right - c.args.left) c.args.values.items c.in-Some.part.items c.requires (is_part c.args.left c.args.right c.args.values.items c.in-Some.part.items (sym (ap (option_map (λ v. v.items)) c.in-Some.is) ∙ c.in_ok-found.ensures))

pub returns-in-None : goal.returns-in-None
returns-in-None c = list_part_is c.args.left c.args.right c.args.values.items None (sym (ap (option_map (λ v. v.items)) c.in-None.is) ∙ c.in_ok-found.ensures)

pub returns-in-Some : goal.returns-in-Some
returns-in-Some c = ap Some c.counted.ensures ∙ list_part_is c.args.left c.args.right c.args.values.items (Some c.in-Some.part.items) (sym (ap (option_map (λ v. v.items)) c.in-Some.is) ∙ c.in_ok-found.ensures)
