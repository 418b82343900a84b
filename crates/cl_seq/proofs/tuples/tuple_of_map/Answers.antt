use Rattle.std.proofs.Common.{rules, ◌≡◌, ap, ◌∙◌}
use Rattle.cl_values.specs.Tree.{entries_of}
use Rattle.cl_values.specs.Valid.{rises}
use Rattle.cl_seq.proofs.Merging.{ordered_rises}
use Rattle.cl_seq.proofs.tuples.tuple_of_map.Goals as goal

pub tuple_of_rows-requires : goal.tuple_of_rows-requires
tuple_of_rows-requires c =
    let same : c.in_ok-rows.rows.items ≡ c.args.sorted.entries = search rules in
    ap (λ m. rises (entries_of m)) same ∙ ordered_rises c.args.sorted.entries c.requires c.len-count.ensures.ordered
