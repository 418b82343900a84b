use Rattle.std.proofs.Common.{◌≡◌, ap, sym, ◌∙◌}
use Rattle.cl_values.specs.Tree.{TupleV, entries_of}
use Rattle.cl_values.specs.Computed.{Gives}
use Rattle.cl_values.specs.Tuples.{merged}
use Rattle.cl_values.proofs.Applies.{applied_so}
use Rattle.cl_seq.specs.Merging.{with_parts}
use Rattle.cl_seq.proofs.Merging.{rising, rising_some, parts_some, same_parts, merged_parts}
use Rattle.cl_seq.proofs.tuples.merge_parts.Goals as goal

pub tuple_of_map-requires : goal.tuple_of_map-requires
tuple_of_map-requires c =
    λ e. parts_some c.in_ok-sorted.sorted.entries c.args.first.items (rising_some c.args.first.items c.requires.first) (sym c.in_ok-sorted-2.ensures ∙ e)

pub returns : goal.returns
returns c =
    let second : entries_of c.in_ok-sorted.sorted.entries ≡ entries_of c.args.second.items =
    ap entries_of c.in_ok-sorted.ensures ∙ ap (λ m. entries_of (with_parts m c.args.second.items)) c.new.ensures.empty ∙ same_parts c.args.second.items (rising (entries_of c.args.second.items) c.requires.second) in
    let both : entries_of c.in_ok-sorted-2.sorted.entries ≡ merged (entries_of c.args.first.items) (entries_of c.args.second.items) =
    ap entries_of c.in_ok-sorted-2.ensures ∙ merged_parts c.args.first.items c.in_ok-sorted.sorted.entries (rising (entries_of c.args.first.items) c.requires.first) ∙ ap (merged (entries_of c.args.first.items)) second in
    applied_so _ _ c.tuple_of_map.result (ap (λ es. Gives (TupleV es)) (sym both)) c.tuple_of_map.ensures
