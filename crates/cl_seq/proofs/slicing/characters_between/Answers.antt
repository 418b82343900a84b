use Rattle.std.proofs.Common.{◌-◌, Some, None, option_map, refl, sym, ap, ◌∙◌}
use Rattle.cl_values.specs.Tree.{Utf8V}
use Rattle.cl_seq.proofs.Between.{single_part, is_part, characters_part}
use Rattle.cl_seq.proofs.slicing.characters_between.Goals as goal

pub counted-requires : goal.counted-requires
counted-requires c = characters_part c.args.left (c.args.right - c.args.left) c.args.characters.items c.in-Some.part.items c.requires (is_part c.args.left c.args.right c.args.characters.items c.in-Some.part.items (sym (ap (option_map (λ v. v.items)) c.in-Some.is) ∙ c.in_ok-found.ensures))

pub returns-in-None : goal.returns-in-None
returns-in-None c = single_part Utf8V (Utf8V c.args.characters.items) c.args.left c.args.right c.args.characters.items None (λ ys. refl) (λ x. refl) (sym (ap (option_map (λ v. v.items)) c.in-None.is) ∙ c.in_ok-found.ensures)

pub returns-in-Some : goal.returns-in-Some
returns-in-Some c = ap Some c.counted.ensures ∙ single_part Utf8V (Utf8V c.args.characters.items) c.args.left c.args.right c.args.characters.items (Some c.in-Some.part.items) (λ ys. refl) (λ x. refl) (sym (ap (option_map (λ v. v.items)) c.in-Some.is) ∙ c.in_ok-found.ensures)
