use Rattle.cl_judging.proofs.EmptyTables.{nothing_under}
use Rattle.cl_judging.proofs.context.type_under.Goals as goal

pub returns-then-is_empty : goal.returns-then-is_empty
returns-then-is_empty c = nothing_under c.args.name.now c.args.types.now.entries (c.is_empty.ensures.0 c.if-is_empty.true)
