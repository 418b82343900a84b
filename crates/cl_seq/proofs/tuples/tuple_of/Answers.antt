use Rattle.std.proofs.Common.{◌≡◌, ap, sym, ◌∙◌}
use Rattle.cl_values.specs.Tree.{TupleV, entries_of}
use Rattle.cl_values.specs.Computed.{Gives}
use Rattle.cl_values.specs.Tuples.{sorted_entries}
use Rattle.cl_values.proofs.Applies.{applied_so}
use Rattle.cl_seq.specs.Merging.{with_parts}
use Rattle.cl_seq.proofs.Merging.{parts_some, sorted_parts}
use Rattle.cl_seq.proofs.tuples.tuple_of.Goals as goal

pub tuple_of_map-requires : goal.tuple_of_map-requires
tuple_of_map-requires c = λ e. parts_some c.new.result.entries c.args.parts.items c.requires.some (sym c.in_ok-sorted.ensures ∙ e)

pub returns : goal.returns
returns c =
    let whole : entries_of c.in_ok-sorted.sorted.entries ≡ sorted_entries c.args.parts.items =
    ap entries_of (c.in_ok-sorted.ensures ∙ ap (λ m. with_parts m c.args.parts.items) c.new.ensures.empty) ∙ sorted_parts c.args.parts.items c.requires.apart in
    applied_so _ _ c.tuple_of_map.result (ap (λ es. Gives (TupleV es)) (sym whole)) c.tuple_of_map.ensures
