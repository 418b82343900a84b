use Rattle.cl_judging.proofs.EmptyTables.{nothing_among}
use Rattle.cl_judging.proofs.context.is_in.Goals as goal

pub returns-then-is_empty : goal.returns-then-is_empty
returns-then-is_empty c = nothing_among c.args.name.now c.args.names.now.keys (c.is_empty.ensures.0 c.if-is_empty.true)
