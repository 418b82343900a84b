use Rattle.std.proofs.Common.{◌++◌, ap, sym, ◌∙◌}
use Rattle.std.specs.Option.{option_to_list}
use Rattle.cl_seq.specs.Merging.{with_parts}
use Rattle.cl_seq.proofs.Merging.{last_first}
use Rattle.cl_seq.proofs.tuples.with_last_part.Goals as goal

pub returns-in_ok-sorted-in-Some-clause-whole : goal.returns-in_ok-sorted-in-Some-clause-whole
returns-in_ok-sorted-in-Some-clause-whole c =
    ap (λ m. with_parts m c.pop.new.self.items) c.in_ok-sorted-in-Some.ensures
    ∙ sym (last_first c.args.sorted.entries c.pop.new.self.items c.in-Some.part.0 c.in-Some.part.1)
    ∙ ap (λ o. with_parts c.args.sorted.entries (c.pop.new.self.items ++ option_to_list o)) (sym c.in-Some.is)
    ∙ ap (with_parts c.args.sorted.entries) (sym c.pop.ensures.items)
