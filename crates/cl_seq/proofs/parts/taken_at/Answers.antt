use Rattle.std.proofs.Common.{◌<◌, length, subst}
use Rattle.cl_seq.proofs.Keys.{entry_of_tuple}
use Rattle.cl_seq.proofs.parts.taken_at.Goals as goal

pub counted-requires : goal.counted-requires
counted-requires c =
    entry_of_tuple c.args.entries.items c.in-Some.at c.swap_remove-entry.result c.requires (subst (λ l. c.in-Some.at < length l) c.deref.ensures.value c.in-Some.ensures.0) c.swap_remove-entry.ensures.value
