use Rattle.std.proofs.Common.{length, sym, ◌∙◌}
use Rattle.std.specs.Ordering.{nat_cmp}
use Rattle.std.specs.Cmp.Lexicographic.{slice_cmp}
use Rattle.cl_values.specs.Wire.{four_bytes}
use Rattle.cl_values.specs.Rows.{items_counted}
use Rattle.cl_values.proofs.Spellings.{few_enough, items_short}
use Rattle.cl_values.proofs.leaves.compare_item_counts.Goals as goal

pub compare_counts-requires : goal.compare_counts-requires
compare_counts-requires c = record {
  first = few_enough (length c.args.a.now) (items_short c.args.a.now c.requires.first);
  second = few_enough (length c.args.b.now) (items_short c.args.b.now c.requires.second);
}

pub returns-clause-order : goal.returns-clause-order
returns-clause-order c =
    c.compare_counts.ensures.order
    ∙ (λ i. slice_cmp nat_cmp (four_bytes (sym (items_counted c.args.a.now) i)) (four_bytes (sym (items_counted c.args.b.now) i)))

pub returns-clause-same : goal.returns-clause-same
returns-clause-same c = c.compare_counts.ensures.same
