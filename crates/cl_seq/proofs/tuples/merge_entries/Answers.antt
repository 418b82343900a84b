use Rattle.std.proofs.Common.{ap, ◌∙◌}
use Rattle.std.proofs.lemmas.Bool.{and_parts}
use Rattle.cl_values.specs.Tree.{entries_of}
use Rattle.cl_values.specs.Valid.{rises, entries_have_rising_keys}
use Rattle.cl_seq.proofs.tuples.merge_entries.Goals as goal

pub merge_parts-requires-clause-first : goal.merge_parts-requires-clause-first
merge_parts-requires-clause-first c =
    ap (λ l. rises (entries_of l)) c.in_ok-first.ensures
    ∙ (and_parts (rises (entries_of c.args.first.items)) (entries_have_rising_keys (entries_of c.args.first.items)) c.requires.first.keys).0

pub merge_parts-requires-clause-second : goal.merge_parts-requires-clause-second
merge_parts-requires-clause-second c =
    ap (λ l. rises (entries_of l)) c.in_ok-second.ensures
    ∙ (and_parts (rises (entries_of c.args.second.items)) (entries_have_rising_keys (entries_of c.args.second.items)) c.requires.second.keys).0
