use Rattle.cl_events.specs.State.{holder}
use Rattle.cl_tables.proofs.KeyReading.{cut_at_end, cut_front, cut_back, cut_within}
use Rattle.cl_tables.proofs.reading.cut_principal.Goals as goal

pub split_at-requires : goal.split_at-requires
split_at-requires c =
    let bytes = c.args.bytes.now in
    let begins = c.requires in
    cut_within bytes (holder begins.0) begins.1 c.principal_size.result (cut_at_end bytes c.principal_size.result begins.0 begins.1 c.principal_size.ensures begins.2 begins.3) begins.3

pub returns : goal.returns
returns c who rest real is =
    let bytes = c.args.bytes.now in
    let at = cut_at_end bytes c.principal_size.result who rest c.principal_size.ensures real is in
    (cut_front bytes c.split_at.result.0.now (holder who) rest c.principal_size.result c.split_at.ensures.front at is, cut_back bytes c.split_at.result.1.now (holder who) rest c.principal_size.result c.split_at.ensures.back at is)
