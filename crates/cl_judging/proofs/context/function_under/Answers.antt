use Rattle.cl_judging.proofs.EmptyTables.{nothing_under}
use Rattle.cl_judging.proofs.context.function_under.Goals as goal

pub returns-then-is_empty : goal.returns-then-is_empty
returns-then-is_empty c = nothing_under c.args.name.now c.args.functions.now.entries (c.is_empty.ensures.0 c.if-is_empty.true)
