use Rattle.std.proofs.Common.{◌-◌, Some, None, option_map, refl, sym, ap, ◌∙◌}
use Rattle.cl_values.specs.Tree.{BuffV}
use Rattle.cl_seq.proofs.Between.{single_part}
use Rattle.cl_seq.proofs.slicing.buff_between.Goals as goal

pub returns-in-None : goal.returns-in-None
returns-in-None c = single_part BuffV (BuffV c.args.bytes.items) c.args.left c.args.right c.args.bytes.items None (λ ys. refl) (λ x. refl) (sym (ap (option_map (λ v. v.items)) c.in-None.is) ∙ c.in_ok-found.ensures)

pub returns-in-Some : goal.returns-in-Some
returns-in-Some c = ap Some c.counted.ensures ∙ single_part BuffV (BuffV c.args.bytes.items) c.args.left c.args.right c.args.bytes.items (Some c.in-Some.part.items) (λ ys. refl) (λ x. refl) (sym (ap (option_map (λ v. v.items)) c.in-Some.is) ∙ c.in_ok-found.ensures)
